-- The texts of names are UTF-8.
use Rattle.std.proofs.Common.{◌≡◌, ℕ, ◌<◌, Bool, true, false, List, [], ◌∷◌, ◌++◌, length, if◌then◌else◌, refl, sym, subst, inl, inr, arith, nat_lt, IsUtf8, IsAscii}
use Rattle.std.specs.List.{list_all}
use Rattle.std.proofs.lemmas.Bool.{and_parts}
use Rattle.std.proofs.lemmas.Bool.Decides.{nat_tests, leb_tells}
use Rattle.std.proofs.lemmas.List.{get_or_past}
use Rattle.std.proofs.lemmas.List.Elements.{All-nil, All-cons, All-push}
use Rattle.std.proofs.lemmas.Str.{IsUtf8-from_ascii, IsUtf8-nil}
use Rattle.std.proofs.lemmas.Str.Ascii.{IsAscii-cons, IsAscii-nil}
use Rattle.apd_term.specs.declared.term.NameId.{NameId}
use Rattle.apd_term.specs.Growth.{Grown}
use Rattle.apd_term.specs.Names.{is_name, with_name, text_of_name, HasUtf8Texts}
use Rattle.apd_term.specs.StandardNames.{standard_names}

-- the standard names, and more behind them, all UTF-8
abbrev pub AreNames : List (List ℕ) → Type 0
AreNames names = Grown standard_names names × HasUtf8Texts names

-- the standard names are ASCII

low : (b : ℕ) → nat_lt b 128 ≡ true → b < 128
low b h = grind (arith, nat_tests)

all_low : (bs : List ℕ) → list_all (λ b. nat_lt b 128) bs ≡ true → IsAscii bs
all_low [] h = IsAscii-nil
all_low (b ∷ bs) h = let both = and_parts (nat_lt b 128) (list_all (λ b. nat_lt b 128) bs) h in IsAscii-cons b bs (low b both.0) (all_low bs both.1)

each_low : (names : List (List ℕ)) → list_all (list_all (λ b. nat_lt b 128)) names ≡ true → HasUtf8Texts names
each_low [] h = All-nil IsUtf8
each_low (t ∷ ts) h =
    let both = and_parts (list_all (λ b. nat_lt b 128) t) (list_all (list_all (λ b. nat_lt b 128)) ts) h in
    All-cons IsUtf8 t ts (IsUtf8-from_ascii t (all_low t both.0)) (each_low ts both.1)

standard_low : list_all (list_all (λ b. nat_lt b 128)) standard_names ≡ true
unfolding standard_names
standard_low = refl

pub HasUtf8Texts-standard_names : HasUtf8Texts standard_names
HasUtf8Texts-standard_names = each_low standard_names standard_low

-- one more text
pub HasUtf8Texts-with_name : (names : List (List ℕ)) (text : List ℕ) → HasUtf8Texts names → IsUtf8 text → HasUtf8Texts (with_name names text)
HasUtf8Texts-with_name names text all u = by (is_name names text)
  where
    by : (b : Bool) → HasUtf8Texts (if b then names else names ++ text ∷ [])
    by true = all
    by false = All-push IsUtf8 names text all u

-- the text of each id, also of one that is no name's
pub utf8_text : (names : List (List ℕ)) (name : NameId) → HasUtf8Texts names → IsUtf8 (text_of_name names name)
utf8_text names name all = elim (leb_tells (length names) name.0) [
  | inl past ↦ subst IsUtf8 (sym (get_or_past names name.0 [] past.1)) IsUtf8-nil
  | inr within ↦ all name.0 [] (let lt = within.1 in omega arith)
]
