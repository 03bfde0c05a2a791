-- The characters that bytes spell, from the first byte on.
use Rattle.std.proofs.Common.{◌≡◌, ℕ, ◌<◌, ◌≤◌, List, [], ◌∷◌, length, drop, get_or, refl, ap, take, ◌-◌, arith}
use Rattle.std.proofs.lemmas.List.{take_all}
use Rattle.std.specs.Str.{chars, chars_after, continuation_len, lead_bits}

pub chars_none : (bs : List ℕ) → length bs < 1 → [] ≡ chars bs
unfolding chars
chars_none [] lt = refl
chars_none (b ∷ bs) lt = absurd (omega arith)

pub chars_first : (bs : List ℕ) → 1 ≤ length bs → chars_after (continuation_len (get_or bs 0 0)) (lead_bits (get_or bs 0 0)) (take (length bs - 1) (drop 1 bs)) ≡ chars bs
unfolding chars
chars_first [] le = absurd (omega arith)
chars_first (b ∷ bs) le =
    ap (λ (w : List ℕ). chars_after (continuation_len b) (lead_bits b) w) (take_all (length (b ∷ bs) - 1) bs (omega arith))
