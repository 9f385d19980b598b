-- Laws of the bits of a number.
use Rattle.std.proofs.Common.{◌≡◌, ℕ, zero, suc, ◌+◌, ◌-◌, ◌*◌, ◌/◌, ◌%◌, ◌^◌, ◌<◌, ◌≤◌, min, max, false, cond, ◌&&◌, ◌||◌, eqb, ltb, List, ◌∷◌, length, sym, refl, ap, ◌∙◌, add-one, arith, pow_mono}
use native.Mathlib.Nat.{div-eq_of_lt, zero-div}
use lib.Bits.{bit_and, bit_or, and_step, or_step, and_shr, or_shr}
use lib.Count.{ones, ones_step}
use Rattle.std.proofs.lemmas.Nat.{pow-add, pow_pos, pow_below, shr-shr}
use Rattle.std.proofs.lemmas.Bool.{eq-eqb, ne_eqb, lt-ltb, le-ltb}
use Rattle.std.proofs.lemmas.Bool.Decides.{nat_tests}
use Rattle.sets.specs.Bits.{bit, rising}

-- bit i as a number, 0 or 1
abbrev digit : ℕ → ℕ → ℕ
digit n i = n / 2 ^ i % 2

double : (k : ℕ) → 2 ^ (k + 1) ≡ 2 * 2 ^ k
double k = let e = pow-add 2 k 1 in omega arith

halved : (n i : ℕ) → n / 2 ^ i / 2 ≡ n / 2 ^ (i + 1)
halved n i = shr-shr n i 1

half_first : (n i : ℕ) → digit (n / 2) i ≡ digit n (i + 1)
half_first n i = ap (λ m. m % 2) (shr-shr n 1 i ∙ ap (λ k. n / 2 ^ k) (omega arith))

pub bit-bit_or : (a b i : ℕ) → bit (bit_or a b) i ≡ (bit a i || bit b i)
bit-bit_or a b i =
    let e = ap (λ n. n % 2) (or_shr a b i) in
    let s = or_step (a / 2 ^ i) (b / 2 ^ i) in
    let d : digit (bit_or a b) i ≡ max (digit a i) (digit b i) = omega arith in
    grind (arith, nat_tests)

pub bit-bit_and : (a b i : ℕ) → bit (bit_and a b) i ≡ (bit a i && bit b i)
bit-bit_and a b i =
    let e = ap (λ n. n % 2) (and_shr a b i) in
    let s = and_step (a / 2 ^ i) (b / 2 ^ i) in
    let d : digit (bit_and a b) i ≡ min (digit a i) (digit b i) = omega arith in
    grind (arith, nat_tests)

-- a number below 2 ^ k has no bit at k or above
pub bit_past : (k n i : ℕ) → n < 2 ^ k → k ≤ i → bit n i ≡ false
bit_past k n i below past =
    let more : 2 ^ k ≤ 2 ^ i = pow_mono past in
    let small : n < 2 ^ i = omega arith in
    ap (λ m. eqb (m % 2) 1) (div-eq_of_lt small)

pub bit_none : (i : ℕ) → bit 0 i ≡ false
bit_none i = ap (λ m. eqb (m % 2) 1) (zero-div (2 ^ i))

-- equal bits, equal numbers
same_digits : (k a b : ℕ) → a < 2 ^ k → b < 2 ^ k → ((i : ℕ) → digit a i ≡ digit b i) → a ≡ b
same_digits zero a b p q same = omega arith
same_digits (suc k) a b p q same =
    let e = double k in
    let s = add-one k in
    let e' : 2 ^ suc k ≡ 2 * 2 ^ k = ap (λ n. 2 ^ n) (sym s) ∙ e in
    let low = same 0 in
    let high = same_digits k (a / 2) (b / 2) (omega arith) (omega arith) (λ i. half_first a i ∙ same (i + 1) ∙ sym (half_first b i)) in
    omega arith

below_power : (n : ℕ) → n < 2 ^ n
below_power zero = omega arith
below_power (suc n) =
    let h = below_power n in
    let e : 2 ^ suc n ≡ 2 * 2 ^ n = ap (λ m. 2 ^ m) (sym (add-one n)) ∙ double n in
    omega arith

pub same_bits : (a b : ℕ) → ((i : ℕ) → bit a i ≡ bit b i) → a ≡ b
same_bits a b same =
    let p = below_power a in
    let q = below_power b in
    let a_more : 2 ^ a ≤ 2 ^ (a + b) = pow_mono (omega arith) in
    let b_more : 2 ^ b ≤ 2 ^ (a + b) = pow_mono (omega arith) in
    same_digits (a + b) a b (omega arith) (omega arith) (λ i. let e = same i in grind (arith, nat_tests))

-- bit i of the power 2 ^ k
pub bit_power : (k i : ℕ) → bit (2 ^ k) i ≡ eqb k i
bit_power zero zero = refl
bit_power zero (suc i) =
    let h : 1 < 2 ^ suc i = pow_below 0 (suc i) (omega arith) in
    ap (λ m. eqb (m % 2) 1) (div-eq_of_lt h) ∙ sym (ne_eqb 0 (suc i) (λ e. omega arith))
bit_power (suc k) zero =
    let e : 2 ^ suc k ≡ 2 * 2 ^ k = ap (λ m. 2 ^ m) (sym (add-one k)) ∙ double k in
    ne_eqb (digit (2 ^ suc k) 0) 1 (λ h. omega arith) ∙ sym (ne_eqb (suc k) 0 (λ h. omega arith))
bit_power (suc k) (suc i) =
    let e : 2 ^ suc k ≡ 2 * 2 ^ k = ap (λ m. 2 ^ m) (sym (add-one k)) ∙ double k in
    let half : 2 ^ suc k / 2 ≡ 2 ^ k = omega arith in
    let d : digit (2 ^ suc k) (suc i) ≡ digit (2 ^ k) i =
    ap (λ j. digit (2 ^ suc k) j) (sym (add-one i)) ∙ sym (half_first (2 ^ suc k) i) ∙ ap (λ n. digit n i) half in
    ap (λ n. eqb n 1) d ∙ bit_power k i ∙ grind (arith, nat_tests)

-- bit i of the number whose lowest n bits are set
pub bit_low : (n i : ℕ) → bit (2 ^ n - 1) i ≡ ltb i n
bit_low zero i = bit_none i ∙ sym (le-ltb i 0 (omega arith))
bit_low (suc n) zero =
    let e : 2 ^ suc n ≡ 2 * 2 ^ n = ap (λ m. 2 ^ m) (sym (add-one n)) ∙ double n in
    let p = pow_pos n in
    eq-eqb (digit (2 ^ suc n - 1) 0) 1 (omega arith) ∙ sym (lt-ltb 0 (suc n) (omega arith))
bit_low (suc n) (suc i) =
    let e : 2 ^ suc n ≡ 2 * 2 ^ n = ap (λ m. 2 ^ m) (sym (add-one n)) ∙ double n in
    let p = pow_pos n in
    let half : (2 ^ suc n - 1) / 2 ≡ 2 ^ n - 1 = omega arith in
    let d : digit (2 ^ suc n - 1) (suc i) ≡ digit (2 ^ n - 1) i =
    ap (λ j. digit (2 ^ suc n - 1) j) (sym (add-one i)) ∙ sym (half_first (2 ^ suc n - 1) i) ∙ ap (λ m. digit m i) half in
    ap (λ m. eqb m 1) d ∙ bit_low n i ∙ grind (arith, nat_tests)

-- the bits that are set, counted, are the places that have one
pub ones_rising : (k n from : ℕ) → n / 2 ^ from < 2 ^ k → ones (n / 2 ^ from) ≡ length (rising (bit n) from k)
unfolding rising ones
ones_rising zero n from small =
    let none : n / 2 ^ from ≡ 0 = omega arith in
    ap ones none
ones_rising (suc k) n from small =
    let e : 2 ^ suc k ≡ 2 * 2 ^ k = ap (λ m. 2 ^ m) (sym (add-one k)) ∙ double k in
    let h = halved n from in
    let rest = ones_rising k n (from + 1) (omega arith) in
    let step = ones_step (n / 2 ^ from) ∙ ap (λ m. n / 2 ^ from % 2 + m) (ap ones h ∙ rest) in
    step ∙ counted (n / 2 ^ from % 2) (omega arith) from (rising (bit n) (from + 1) k)
  where
    counted : (d : ℕ) → d < 2 → (from : ℕ) (more : List ℕ) → d + length more ≡ length (cond (eqb d 1) (from ∷ more) more)
    counted zero small from more = omega arith
    counted (suc zero) small from more = omega arith
    counted (suc (suc d)) small from more = absurd (omega arith)
