-- The first line of a text.
use Rattle.std.proofs.Common.{◌≡◌, ◌<◌, ℕ, Bool, true, false, List, [], ◌∷◌, length, Option, None, Some, refl, ap, arith}
use Rattle.std.specs.Prelude.{nat_eq}
use Rattle.std.specs.Option.{option_map}
use Rattle.apd_console.specs.Lines.{lines_of, onto_first}
use Rattle.apd_parts.specs.Parts.{Parts, cut, onto_part}

-- the newline
abbrev newline : List ℕ
newline = 10 ∷ []

abbrev pub FirstOf : List ℕ → Option Parts → Type 0
FirstOf text None = lines_of text ≡ text ∷ []
FirstOf text (Some p) = (lines_of text ≡ p.0 ∷ lines_of p.1) × (length p.1 < length text)

-- one byte more, which isn't a newline
moved : (b : ℕ) (text : List ℕ) → nat_eq b 10 ≡ false → (o : Option Parts) → FirstOf text o → FirstOf (b ∷ text) (option_map (onto_part b) o)
moved b text not None h = rw not (ap (onto_first b) h)
moved b text not (Some p) h = (rw not (ap (onto_first b) h.0), let l = h.1 in omega (arith, l))

at-newline : (b : ℕ) (text : List ℕ) → nat_eq b 10 ≡ true → FirstOf (b ∷ text) (cut newline (b ∷ text))
at-newline b text e = rw e (rw e refl, omega arith)

further : (b : ℕ) (text : List ℕ) → nat_eq b 10 ≡ false → FirstOf (b ∷ text) (option_map (onto_part b) (cut newline text)) → FirstOf (b ∷ text) (cut newline (b ∷ text))
further b text e h = rw e h

behind : (b : ℕ) (text : List ℕ) → nat_eq b 10 ≡ false → (0 < length text → FirstOf text (cut newline text)) → FirstOf (b ∷ text) (option_map (onto_part b) (cut newline text))
behind b [] e rest = rw e refl
behind b (c ∷ text) e rest = moved b (c ∷ text) e (cut newline (c ∷ text)) (rest (omega arith))

first-of : (text : List ℕ) → 0 < length text → FirstOf text (cut newline text)
first-of [] some = absurd (omega (arith, some))
first-of (b ∷ text) some = by (nat_eq b 10) refl (first-of text)
  where
    by : (x : Bool) → nat_eq b 10 ≡ x → (0 < length text → FirstOf text (cut newline text)) → FirstOf (b ∷ text) (cut newline (b ∷ text))
    by true e rest = at-newline b text e
    by false e rest = further b text e (behind b text e rest)

pub cut_line : (text front rest : List ℕ) → 0 < length text → cut newline text ≡ Some (front, rest) → (lines_of text ≡ front ∷ lines_of rest) × (length rest < length text)
cut_line text front rest some e = let h = first-of text some in rw e at h

pub one_line : (text : List ℕ) → 0 < length text → cut newline text ≡ None → lines_of text ≡ text ∷ []
one_line text some e = let h = first-of text some in rw e at h
