-- A column's byte as its rows come, the top one first. Assumes nothing.
use Rattle.std.proofs.Common.{◌≡◌, ◌+◌, ◌*◌, ◌<◌, ◌≤◌, ◌/◌, ◌^◌, ◌==◌, ℕ, zero, suc, List, Bool, true, false, cond, nat_lt, get_or, arith}
use Rattle.paper.specs.Panel.{byte_of, lit}

-- whether the character of row i in column k is lit
abbrev pub dot : List ℕ → ℕ → ℕ → Bool
dot dots k i = get_or dots (5 * i + k) 0 == 0x23

-- the byte of the first n rows
abbrev pub upto : ℕ → (ℕ → Bool) → ℕ
upto n d = byte_of (λ i. cond (nat_lt i n) (d i) false)

-- one row more
pub row : (n : ℕ) (d : ℕ → Bool) → n < 7 → upto n d + lit (128 / 2 ^ n) (d n) ≡ upto (n + 1) d
unfolding byte_of
row zero d h = omega arith
row (suc zero) d h = omega arith
row (suc (suc zero)) d h = omega arith
row (suc (suc (suc zero))) d h = omega arith
row (suc (suc (suc (suc zero)))) d h = omega arith
row (suc (suc (suc (suc (suc zero))))) d h = omega arith
row (suc (suc (suc (suc (suc (suc zero)))))) d h = omega arith
row (suc (suc (suc (suc (suc (suc (suc n))))))) d h = absurd (omega arith)

lit_le : (w : ℕ) (b : Bool) → lit w b ≤ w
lit_le w true = omega arith
lit_le w false = omega arith

-- it is a byte
pub small : (d : ℕ → Bool) → byte_of d < 256
unfolding byte_of
small d =
    omega (arith, lit_le 128 (d 0), lit_le 64 (d 1), lit_le 32 (d 2), lit_le 16 (d 3), lit_le 8 (d 4), lit_le 4 (d 5), lit_le 2 (d 6), lit_le 1 (d 7))

-- there is room for one row more
pub room : (n : ℕ) (d : ℕ → Bool) → n < 7 → upto n d + 128 / 2 ^ n < 256
unfolding byte_of
room zero d h = omega (arith, small (λ i. cond (nat_lt i 0) (d i) true))
room (suc zero) d h = omega (arith, small (λ i. cond (nat_lt i 1) (d i) true))
room (suc (suc zero)) d h = omega (arith, small (λ i. cond (nat_lt i 2) (d i) true))
room (suc (suc (suc zero))) d h = omega (arith, small (λ i. cond (nat_lt i 3) (d i) true))
room (suc (suc (suc (suc zero)))) d h = omega (arith, small (λ i. cond (nat_lt i 4) (d i) true))
room (suc (suc (suc (suc (suc zero))))) d h = omega (arith, small (λ i. cond (nat_lt i 5) (d i) true))
room (suc (suc (suc (suc (suc (suc zero)))))) d h = omega (arith, small (λ i. cond (nat_lt i 6) (d i) true))
room (suc (suc (suc (suc (suc (suc (suc n))))))) d h = absurd (omega arith)
