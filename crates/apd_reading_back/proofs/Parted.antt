-- A text of lines, of which each is pieces that don't run into one another, a blank, a full stop and a newline, has their tokens.
use Rattle.std.proofs.Common.{ℕ, ◌+◌, true, List, [], ◌∷◌, length, refl, inl, inr}
use Rattle.apd_token.specs.Grammar.{Piece, Begins, Divides, HasTokens, BeginsScript, tokens_of}
use Rattle.apd_token.specs.declared.bytes.Class.TheVariants as classes
use Rattle.apd_token.specs.declared.found.Found.TheVariants.{Passed, Item}
use Rattle.apd_token.specs.declared.items.TokenKind.TheVariants as kinds
use Rattle.apd_token.proofs.Longest.{alone, graphic}
use Rattle.apd_reading_back.specs.Pieces.{IsBefore, AreApart, separate_first, separate_second, minus_number, blank, full_stop, text_of}
use Rattle.apd_reading_back.proofs.Edges.{blank_edge, differ}
use Rattle.apd_reading_back.proofs.Divided.{Behind, is_apart, of_separate, of_minus, edge_follows, number_follows, no_script_piece, separate_begins, spelled_begins, spelled_sound}

abbrev pub newline : Piece
newline = record { what = Passed; bytes = 10 ∷ [] }

-- the pieces of a line, and those behind it
abbrev pub line_of : List Piece → List Piece → List Piece
line_of [] rest = blank ∷ full_stop ∷ newline ∷ rest
line_of (p ∷ ps) rest = p ∷ line_of ps rest

-- the pieces of all lines
abbrev pub all_lines : List (List Piece) → List Piece
all_lines [] = []
all_lines (ps ∷ pss) = line_of ps (all_lines pss)

abbrev pub AllApart : List (List Piece) → Type 0
AllApart [] = Unit {0}
AllApart (ps ∷ pss) = AreApart ps × AllApart pss

stop_before : (at : ℕ) (rest : List ℕ) → Begins at (Item kinds.End) (46 ∷ []) (10 ∷ rest) (46 ∷ 10 ∷ rest)
stop_before at rest = graphic at kinds.End 46 [] (10 ∷ rest) refl (inr (refl, (refl, inl refl))) refl (λ c. differ 46 47 (10 ∷ rest) (42 ∷ c.0) refl c.1)

newline_before : (at : ℕ) (rest : List ℕ) → Begins at Passed (10 ∷ []) rest (10 ∷ rest)
newline_before at rest = alone classes.Layout at Passed 10 rest refl (refl, refl) (λ v bs more f. f.1)

pub behind_in : (p : Piece) (ps rest : List Piece) → IsBefore p ps → AreApart ps → Behind p.what p.bytes (text_of (line_of ps rest))
behind_in p [] rest b a = is_apart blank_edge
behind_in p (q ∷ qs) rest b a = elim b [
  | separate_first is ↦ of_separate is
  | separate_second is ↦ is_apart (edge_follows q (text_of (line_of qs rest)) a.0 is)
  | minus_number n name minus is ↦ of_minus name minus (number_follows q n (text_of (line_of qs rest)) a.0 is)
]

line_divides : (at : ℕ) (ps rest : List Piece) → AreApart ps → ((k : ℕ) → Divides k rest (text_of rest) []) → Divides at (line_of ps rest) (text_of (line_of ps rest)) []
line_divides at [] rest a others = (
  46 ∷ 10 ∷ text_of rest,
  separate_begins at Passed (32 ∷ []) (46 ∷ 10 ∷ text_of rest) refl refl,
  tt,
  (10 ∷ text_of rest, stop_before (at + 1) (text_of rest), tt, (text_of rest, newline_before (at + 1 + 1) (text_of rest), tt, others (at + 1 + 1 + 1))),
)
line_divides at (p ∷ ps) rest a others = (
  text_of (line_of ps rest),
  spelled_begins at p.what p.bytes (text_of (line_of ps rest)) a.0 (behind_in p ps rest a.1 a.2),
  spelled_sound p.what p.bytes a.0,
  line_divides (at + length p.bytes) ps rest a.2 others,
)

lines_divide : (at : ℕ) (pss : List (List Piece)) → AllApart pss → Divides at (all_lines pss) (text_of (all_lines pss)) []
lines_divide at [] a = refl
lines_divide at (ps ∷ pss) a = line_divides at ps (all_lines pss) a.0 (λ k. lines_divide k pss a.1)

no_script_in : (pss : List (List Piece)) → AllApart pss → BeginsScript (text_of (all_lines pss)) → ⊥
no_script_in [] a s = let e = s.1 in cc
no_script_in ([] ∷ pss) a s = differ 32 35 (46 ∷ 10 ∷ text_of (all_lines pss)) (33 ∷ s.0) refl s.1
no_script_in ((p ∷ ps) ∷ pss) a s =
    let b = behind_in p ps (all_lines pss) a.0.1 a.0.2 in
    let begins = spelled_begins 0 p.what p.bytes (text_of (line_of ps (all_lines pss))) a.0.0 b in
    no_script_piece 0 p.what p.bytes (text_of (line_of ps (all_lines pss))) (spelled_sound p.what p.bytes a.0.0) b begins.form s

pub lines_have_tokens : (pss : List (List Piece)) → AllApart pss → HasTokens (text_of (all_lines pss)) (tokens_of 0 true (all_lines pss))
lines_have_tokens pss a = record {
  front = [];
  rest = text_of (all_lines pss);
  pieces = all_lines pss;
  spelled = refl;
  lead = record { which = inl (refl, no_script_in pss a) };
  divides = lines_divide 0 pss a;
  tokens = refl;
}
