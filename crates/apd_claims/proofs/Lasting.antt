-- Texts that stay where more names come.
use Rattle.std.proofs.Common.{◌≡◌, ◌∙◌, ◌++◌, ℕ, Bool, true, false, List, [], ◌∷◌, length, Option, None, Some, refl, sym, ap}
use Rattle.std.specs.Prelude.{IfSome, if◌then◌else◌}
use Rattle.std.specs.Option.{option_and_then}
use Rattle.std.specs.List.{AllByRecursion}
use Rattle.std.specs.Str.{bytes_eq}
use Rattle.apd_term.specs.Canonical.{canonical}
use Rattle.apd_term.specs.Growth.{Grown}
use Rattle.apd_term.specs.Named.{AreNamed, IsNamed}
use Rattle.apd_term.specs.Term.{Term, Terms, compound, integer, more, none, spell, spell_all, variable}
use Rattle.apd_term.specs.declared.term.Sym.{Sym}
use Rattle.apd_term.proofs.Named.{IsNamed-canonical}
use Rattle.apd_ops.specs.Table.{Table}
use Rattle.apd_write.proofs.MoreNames.{written-more}
use Rattle.apd_answers.specs.declared.finding.Finding.TheVariants as findings
use Rattle.apd_text.specs.Dialogues.{atom_text}
use Rattle.apd_text.specs.Named.{EntryIsNamed}
use Rattle.apd_text.specs.declared.entry.Entry.{Entry}
use Rattle.apd_text.specs.declared.entry.Entry.TheVariants as entries
use Rattle.apd_claims.specs.Claims.{written}
use Rattle.apd_claims.specs.declared.claim.Claim.{Claim}
use Rattle.apd_claims.specs.Parting.{IsOld, is_callers}

both : (n : ℕ) (ss rest : List Sym) → AllByRecursion (IsOld n) (ss ++ rest) → AllByRecursion (IsOld n) ss × AllByRecursion (IsOld n) rest
both n [] rest are = (tt, are)
both n (s ∷ ss) rest are = let b = both n ss rest are.1 in ((are.0, b.0), b.1)

-- a term whose symbols have old names
mutual
  pub old-named : (n : ℕ) (t : Term) → AllByRecursion (IsOld n) (spell t) → IsNamed n t
  old-named n (variable v) are = tt
  old-named n (integer i) are = tt
  old-named n (compound f ts) are = (are.0, all-old-named n ts are.1)

  all-old-named : (n : ℕ) (ts : Terms) → AllByRecursion (IsOld n) (spell_all ts) → AreNamed n ts
  all-old-named n none are = tt
  all-old-named n (more t ts) are = let b = both n (spell t) (spell_all ts) are in (old-named n t b.0, all-old-named n ts b.1)

pub atom-lasts : (ops : Table) (names later : List (List ℕ)) (a : Term) → Grown names later → IsNamed (length names) a → atom_text ops later a ≡ atom_text ops names a
atom-lasts ops names later a g named =
    ap (λ (n : List (List ℕ)). atom_text ops n a) g.1 ∙ written-more ops names g.0 (canonical a) 999 (IsNamed-canonical (length names) a named)

pub callers-last : (ops : Table) (names later : List (List ℕ)) (text : List ℕ) (e : Option Entry) → Grown names later → IfSome e (EntryIsNamed (length names)) → is_callers ops names text e ≡ is_callers ops later text e
callers-last ops names later text (Some (entries.Found (findings.Violation clause goal caller callee p q) line)) g named =
    ap (λ (t : List ℕ). bytes_eq t text) (sym (atom-lasts ops names later p g named.1.0))
callers-last ops names later text (Some (entries.Found (findings.WrongInstance clause t) line)) g named = refl
callers-last ops names later text (Some (entries.Found (findings.Uncovered a) line)) g named = refl
callers-last ops names later text (Some (entries.Found (findings.Candidates cs) line)) g named = refl
callers-last ops names later text None g named = refl
callers-last ops names later text (Some e) g named = refl

-- what is said of two calls, by whether the second part is the caller's text
abbrev pub said_where : Table → List (List ℕ) → List ℕ → List ℕ → Option Entry → Option Claim
said_where ops names whole rest e = if is_callers ops names rest e then option_and_then (written ops names whole) e else None

module _ (ops : Table) (names later : List (List ℕ)) (whole rest : List ℕ) (e f : Option Entry) (b : Bool) (g : Grown names later) (named : IfSome e (EntryIsNamed (length names))) (is : e ≡ f) (test : b ≡ is_callers ops names rest e) where
  same-test : b ≡ is_callers ops later rest f
  same-test = test ∙ callers-last ops names later rest e g named ∙ ap (is_callers ops later rest) is

  pub parted-not : b ≡ false → None ≡ said_where ops later whole rest f
  parted-not fails = ap (λ (x : Bool). if x then option_and_then (written ops later whole) f else None) (sym fails ∙ same-test)

  pub parted-so : b ≡ true → option_and_then (written ops later whole) e ≡ said_where ops later whole rest f
  parted-so holds = ap (option_and_then (written ops later whole)) is ∙ ap (λ (x : Bool). if x then option_and_then (written ops later whole) f else None) (sym holds ∙ same-test)
