-- Keys tell terms apart.
use Rattle.std.proofs.Common.{◌≡◌, List, [], ◌∷◌, map, refl, ◌∙◌, ap, arith}
use Rattle.std.specs.Bool.{Decides}
use Rattle.std.proofs.lemmas.Bool.Decides.{Decides-eqb, Decides-int_eq, nat_tests}
use Rattle.apd_term.specs.Term.{Term, spell}
use Rattle.apd_term.specs.declared.term.Sym.{Sym}
use Rattle.apd_term.specs.declared.term.Sym.TheVariants.{Var, Int, Fun}
use Rattle.apd_term.proofs.Spelling.{spell-injective}
use Rattle.apd_marks.specs.declared.keys.KeyPart.{KeyPart}
use Rattle.apd_marks.specs.declared.keys.KeyPart.TheVariants.{Variable, Integer, Name, Size}
use Rattle.apd_marks.specs.contracts.keys.KeyPartPartialEq.TheImpl.{eq-value}
use Rattle.apd_marks.specs.Keys.{key, part_of}

-- the program's `==` on parts
pub part_eq : (a b : KeyPart) → Decides (eq-value.it a b) (a ≡ b)
part_eq (Variable v) (Variable w) = let d = Decides-eqb v w in (λ e. ap Variable (d.0 e), λ e. d.1 (cc))
part_eq (Integer v) (Integer w) = let d = Decides-int_eq v w in (λ e. ap Integer (d.0 e), λ e. d.1 (cc))
part_eq (Name f n) (Name g m) = let d = Decides-eqb f g in let k = Decides-eqb n m in grind (arith, nat_tests)
part_eq (Size v) (Size w) = let d = Decides-eqb v w in (λ e. ap Size (d.0 e), λ e. d.1 (cc))
part_eq _ _ = (λ e. (cc), λ e. (cc))

-- terms with one key are one
part-injective : (a b : Sym) → part_of a ≡ part_of b → a ≡ b
part-injective (Var v) (Var w) e = ap Var (cc)
part-injective (Var v) (Int j) e = absurd (cc)
part-injective (Var v) (Fun g m) e = absurd (cc)
part-injective (Int i) (Var w) e = absurd (cc)
part-injective (Int i) (Int j) e = ap Int (cc)
part-injective (Int i) (Fun g m) e = absurd (cc)
part-injective (Fun f n) (Var w) e = absurd (cc)
part-injective (Fun f n) (Int j) e = absurd (cc)
part-injective (Fun f n) (Fun g m) e =
    let x : f.0 ≡ g.0 = cc in
    let y : n ≡ m = cc in
    ap (λ z. Fun (record { 0 = z }) n) x ∙ ap (Fun g) y

map-injective : (xs ys : List Sym) → map part_of xs ≡ map part_of ys → xs ≡ ys
map-injective [] [] e = refl
map-injective [] (y ∷ ys) e = absurd (cc)
map-injective (x ∷ xs) [] e = absurd (cc)
map-injective (x ∷ xs) (y ∷ ys) e =
    let h : part_of x ≡ part_of y = cc in
    let t : map part_of xs ≡ map part_of ys = cc in
    ap (λ z. z ∷ xs) (part-injective x y h) ∙ ap (λ zs. y ∷ zs) (map-injective xs ys t)

pub key-injective : (a b : Term) → key a ≡ key b → a ≡ b
key-injective a b e = spell-injective a b (map-injective (spell a) (spell b) e)
