-- Reverse and mixing in bytes: the paper's `penned`, dot by dot, is `pennedByte`. Assumes nothing.
use mathlib.Core.Path.{◌≡◌, refl, sym, ap, ◌∙◌}
use mathlib.Core.Bool.{Bool, true, false, cond, not, ◌&&◌, ◌||◌, xor}
use Prim.Native.Nat.{ℕ, zero, suc, ◌-◌, ◌/◌, ◌%◌, ◌^◌, ◌<◌}
use native.Mathlib.Omega.{arith}
use lib.Dec.{eqb}
use lib.Bits.{bit_and, bit_or, bit_xor, and_lt, or_lt, xor_lt, and_shr, or_shr, xor_shr, and_mod, or_mod, xor_mod}
use Rattle.paper.specs.declared.Style.{Style}
use Rattle.paper.specs.Panel.{dot, byte_of}
use Rattle.paper.specs.Cells.{reversed_dot, mixed_dot, penned}
use Rattle.laws_bytes.specs.Bytes.{reversed_byte, penned_byte}
use Rattle.laws_bytes.proofs.Dots.{byte_of-same, byte_of-lt, byte_of-dot, dots_of, byte_rule}

-- ---- the bit operations, dot by dot

-- what holds of 0 and of 1 holds of every digit
digit_cases : (P : ℕ → Type 0) → P 0 → P 1 → (n : ℕ) → n < 2 → P n
digit_cases P p q zero h = p
digit_cases P p q (suc zero) h = q
digit_cases P p q (suc (suc n)) h = absurd (omega arith)

module _ (op : ℕ → ℕ → ℕ) (g : Bool → Bool → Bool)
    (shifts : (a b k : ℕ) → op a b / 2 ^ k ≡ op (a / 2 ^ k) (b / 2 ^ k))
    (masks : (a b k : ℕ) → op a b % 2 ^ k ≡ op (a % 2 ^ k) (b % 2 ^ k))
    (at_00 : eqb (op 0 0) 1 ≡ g false false)
    (at_01 : eqb (op 0 1) 1 ≡ g false true)
    (at_10 : eqb (op 1 0) 1 ≡ g true false)
    (at_11 : eqb (op 1 1) 1 ≡ g true true) where
  -- on two digits the operation is g
  digit_op : (x y : ℕ) → x < 2 → y < 2 → eqb (op x y) 1 ≡ g (eqb x 1) (eqb y 1)
  digit_op x y hx hy =
      digit_cases (λ n. eqb (op n y) 1 ≡ g (eqb n 1) (eqb y 1))
      (digit_cases (λ n. eqb (op 0 n) 1 ≡ g false (eqb n 1)) at_00 at_01 y hy)
      (digit_cases (λ n. eqb (op 1 n) 1 ≡ g true (eqb n 1)) at_10 at_11 y hy)
      x hx

  -- an operation that works digit by digit is g dot by dot
  dot_op : (a b i : ℕ) → dot (op a b) i ≡ g (dot a i) (dot b i)
  dot_op a b i =
      let x = a / 2 ^ (7 - i) in
      let y = b / 2 ^ (7 - i) in
      rw (shifts a b (7 - i), masks x y 1) (digit_op (x % 2) (y % 2) (omega arith) (omega arith))

-- or, dot by dot
dot-or : (a b i : ℕ) → dot (bit_or a b) i ≡ (dot a i || dot b i)
dot-or = dot_op bit_or ◌||◌ or_shr or_mod refl refl refl refl

-- and
dot-and : (a b i : ℕ) → dot (bit_and a b) i ≡ (dot a i && dot b i)
dot-and = dot_op bit_and ◌&&◌ and_shr and_mod refl refl refl refl

-- exclusive or
dot-xor : (a b i : ℕ) → dot (bit_xor a b) i ≡ xor (dot a i) (dot b i)
unfolding xor
dot-xor = dot_op bit_xor xor xor_shr xor_mod refl refl refl refl

-- ---- reverse and mixing

-- "Reverse inverts": what is lit in 255 - v
not-dot : (v : ℕ) → v < 256 → (i : ℕ) → i < 8 → not (dot v i) ≡ dot (255 - v) i
unfolding byte_of
not-dot v h = dots_of (λ i. not (dot v i)) (255 - v) (byte_rule (λ n i. not (dot n i)) (λ n. 255 - n) refl v h)

-- reverse, by its test
reversed_dot_lem : (t : Bool) (v : ℕ) → v < 256 → (i : ℕ) → i < 8 → cond t (not (dot v i)) (dot v i) ≡ dot (cond t (255 - v) v) i
reversed_dot_lem true v h i l = not-dot v h i l
reversed_dot_lem false v h i l = refl

-- what reverse gives is a byte
reversed_lt : (t : Bool) (v : ℕ) → v < 256 → cond t (255 - v) v < 256
reversed_lt true v h = omega arith
reversed_lt false v h = h

-- the paper's mixing of a dot, by its three tests
abbrev dot_by : Bool → Bool → Bool → Bool → Bool → Bool
dot_by s t u p old = cond s p (cond t (old || p) (cond u (old && p) (xor old p)))

-- and of a byte
abbrev byte_by : Bool → Bool → Bool → ℕ → ℕ → ℕ
byte_by s t u v old = cond s v (cond t (bit_or old v) (cond u (bit_and old v) (bit_xor old v)))

-- the two agree
mixed_dot_lem : (s t u : Bool) (v old i : ℕ) → dot_by s t u (dot v i) (dot old i) ≡ dot (byte_by s t u v old) i
mixed_dot_lem true t u v old i = refl
mixed_dot_lem false true u v old i = sym (dot-or old v i)
mixed_dot_lem false false true v old i = sym (dot-and old v i)
mixed_dot_lem false false false v old i = sym (dot-xor old v i)

-- what mixing gives is a byte
mixed_lt : (s t u : Bool) (v old : ℕ) → v < 256 → old < 256 → byte_by s t u v old < 256
mixed_lt true t u v old hv ho = hv
mixed_lt false true u v old hv ho = or_lt 8 old v ho hv
mixed_lt false false true v old hv ho = and_lt 8 old v ho hv
mixed_lt false false false v old hv ho = xor_lt 8 old v ho hv

module _ (y : Style) where
  -- the byte form gives a byte
  pub penned_byte-lt : (v old : ℕ) → v < 256 → old < 256 → penned_byte y v old < 256
  unfolding penned_byte
  penned_byte-lt v old hv ho =
      mixed_lt (eqb y.mixing 0) (eqb y.mixing 1) (eqb y.mixing 2) (reversed_byte y v) old
      (reversed_lt (eqb y.reverse 1) v hv) ho

  -- a byte's dots, as those of an image byte, pass reverse and mixing
  pub penned-dots : (v old : ℕ) → v < 256 → old < 256 → penned y (dot v) old ≡ penned_byte y v old
  unfolding penned penned_byte
  penned-dots v old hv ho =
      byte_of-same (λ i. mixed_dot y (reversed_dot y (dot v i)) (dot old i)) (dot (penned_byte y v old))
      (λ i h. ap (λ (p : Bool). mixed_dot y p (dot old i)) (reversed_dot_lem (eqb y.reverse 1) v hv i h)
      ∙ mixed_dot_lem (eqb y.mixing 0) (eqb y.mixing 1) (eqb y.mixing 2) (reversed_byte y v) old i)
      ∙ byte_of-dot (penned_byte y v old) (penned_byte-lt v old hv ho)

  -- any eight dots pass reverse and mixing
  pub penned_byte_lem : (d : ℕ → Bool) (old : ℕ) → old < 256 → penned y d old ≡ penned_byte y (byte_of d) old
  unfolding penned
  penned_byte_lem d old h =
      byte_of-same (λ i. mixed_dot y (reversed_dot y (d i)) (dot old i))
      (λ i. mixed_dot y (reversed_dot y (dot (byte_of d) i)) (dot old i))
      (λ i l. ap (λ (p : Bool). mixed_dot y (reversed_dot y p) (dot old i)) (dots_of d (byte_of d) refl i l))
      ∙ penned-dots (byte_of d) old (byte_of-lt d) h

  -- what is stored is a byte
  pub penned-lt : (d : ℕ → Bool) (old : ℕ) → penned y d old < 256
  unfolding penned
  penned-lt d old = byte_of-lt (λ i. mixed_dot y (reversed_dot y (d i)) (dot old i))
