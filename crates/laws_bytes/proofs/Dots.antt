-- A byte and its dots: which is which, for any dots and for all 256 bytes. Assumes nothing.
use mathlib.Core.Path.{◌≡◌, refl, sym, ap, ◌∙◌}
use mathlib.Core.Bool.{Bool, true, false}
use Prim.Native.Nat.{ℕ, zero, suc, ◌+◌, ◌*◌, ◌-◌, ◌/◌, ◌%◌, ◌^◌, ◌<◌, ◌≤◌}
use native.Mathlib.Nat.{pow-suc}
use native.Mathlib.Omega.{arith}
use lib.Dec.{eqb}
use lib.Pow.{shr-shr}
use borrow.Author.Tests.{eqb-true}
use Rattle.paper.specs.Panel.{dot, lit, byte_of}
use Rattle.laws_bytes.proofs.Every.{below, all}

-- ---- any eight dots

-- the byte of dots looks at its eight dots alone
pub byte_of-same : (d e : ℕ → Bool) → ((i : ℕ) → i < 8 → d i ≡ e i) → byte_of d ≡ byte_of e
unfolding byte_of
byte_of-same d e h =
    rw (
      h 0 (omega arith),
      h 1 (omega arith),
      h 2 (omega arith),
      h 3 (omega arith),
      h 4 (omega arith),
      h 5 (omega arith),
      h 6 (omega arith),
      h 7 (omega arith),
    )

-- a dot is worth at most its worth
lit-le : (worth : ℕ) (p : Bool) → lit worth p ≤ worth
lit-le worth true = omega arith
lit-le worth false = omega arith

-- a dot's worth is a multiple of the lowest dot's
lit_worth : (worth : ℕ) (p : Bool) → lit worth p ≡ worth * lit 1 p
lit_worth worth true = omega arith
lit_worth worth false = omega arith

-- the number whose n digits, highest first, are the first n dots
value : (ℕ → Bool) → ℕ → ℕ
value d zero = 0
value d (suc n) = value d n * 2 + lit 1 (d n)

-- a byte of dots is such a number
byte_of_value : (d : ℕ → Bool) → byte_of d ≡ value d 8
unfolding byte_of value
byte_of_value d =
    omega (
      arith,
      lit_worth 128 (d 0),
      lit_worth 64 (d 1),
      lit_worth 32 (d 2),
      lit_worth 16 (d 3),
      lit_worth 8 (d 4),
      lit_worth 4 (d 5),
      lit_worth 2 (d 6),
    )

-- it has n digits
value_lt : (d : ℕ → Bool) (n : ℕ) → value d n < 2 ^ n
unfolding value
value_lt d zero = omega arith
value_lt d (suc n) = omega (arith, value_lt d n, pow-suc 2 n, lit-le 1 (d n))

-- and its digit k from below is dot n - 1 - k
value_digit : (d : ℕ → Bool) (k i n : ℕ) → n ≡ i + suc k → value d n / 2 ^ k % 2 ≡ lit 1 (d i)
unfolding value
value_digit d zero i zero e = absurd (omega arith)
value_digit d (suc k) i zero e = absurd (omega arith)
value_digit d zero i (suc n) e =
    let last : i ≡ n = omega arith in
    rw last (omega (arith, lit-le 1 (d n)))
value_digit d (suc k) i (suc n) e =
    let half : value d (suc n) / 2 ≡ value d n = omega (arith, lit-le 1 (d n)) in
    let one : suc k ≡ 1 + k = omega arith in
    rw (one, ← shr-shr (value d (suc n)) 1 k, half) (value_digit d k i n (omega arith))

-- a byte of dots is a byte
pub byte_of-lt : (d : ℕ → Bool) → byte_of d < 256
byte_of-lt d = rw byte_of_value (value_lt d 8)

-- a digit of 1 is a lit dot
is_lit : (v : ℕ) (p : Bool) → v ≡ lit 1 p → eqb v 1 ≡ p
is_lit v true h = rw h
is_lit v false h = rw h

-- a dot of a byte of dots is that dot
pub dot-byte_of : (d : ℕ → Bool) (i : ℕ) → i < 8 → dot (byte_of d) i ≡ d i
dot-byte_of d i h =
    is_lit (byte_of d / 2 ^ (7 - i) % 2) (d i) (rw byte_of_value (value_digit d (7 - i) i 8 (omega arith)))

-- dots whose byte is known are the dots of that byte
pub dots_of : (d : ℕ → Bool) (v : ℕ) → byte_of d ≡ v → (i : ℕ) → i < 8 → d i ≡ dot v i
dots_of d v e i h = sym (dot-byte_of d i h) ∙ ap (λ (n : ℕ). dot n i) e

-- ---- all 256 bytes

-- the byte of some dots of v is a function of v, if a test of all 256 says so
pub byte_rule : (f : ℕ → ℕ → Bool) (g : ℕ → ℕ) → below (λ n. eqb (byte_of (f n)) (g n)) 256 ≡ true
    → (v : ℕ) → v < 256 → byte_of (f v) ≡ g v
byte_rule f g t v h = eqb-true _ _ (all (λ n. eqb (byte_of (f n)) (g n)) 256 t v h)

-- a byte is the byte of its dots
pub byte_of-dot : (v : ℕ) → v < 256 → byte_of (dot v) ≡ v
unfolding byte_of
byte_of-dot = byte_rule dot (λ n. n) refl
