use Rattle.std.proofs.Common.{◌≡◌, ◌∙◌, ◌+◌, ◌<◌, ℕ, List, [], ◌∷◌, ◌++◌, ap, arith, get_or, length, sym, take}
use Rattle.std.specs.Prelude.{flat_map}
use Rattle.std.proofs.lemmas.List.{flat_map_more, take_more}
use Rattle.apd_term.specs.declared.instance.Instance.{Instance}
use Rattle.apd_text.specs.Dialogues.{candidate_text}
use Rattle.apd_text.proofs.finding.candidates.Goals as goal

one_more : (f : Instance → List ℕ) (xs : List Instance) (i : ℕ) (x : Instance) (head text line more : List ℕ) → i < length xs → x ≡ get_or xs i x → text ≡ head ++ flat_map f (take i xs) → line ≡ f x → more ≡ text ++ line
    → more ≡ head ++ flat_map f (take (i + 1) xs)
one_more f xs i x head text line more lt item so is added =
    added ∙ ap (λ (s : List ℕ). s ++ line) so ∙ ap (λ (s : List ℕ). (head ++ flat_map f (take i xs)) ++ s) is
    ∙ flat_map_more f head (take i xs) x
    ∙ ap (λ (y : Instance). head ++ flat_map f (take i xs ++ y ∷ [])) item
    ∙ ap (λ (ys : List Instance). head ++ flat_map f ys) (sym (take_more xs i x lt))

pub candidates-preserved : goal.candidates-preserved
candidates-preserved c =
    one_more (candidate_text c.args.ops.now c.args.names.now) c.args.instances.now c.candidates.instance-index c.instance-item.result c.in_ok-text.text c.candidates.text c.bytes.result.now c.extend.new.self
    (omega arith) c.instance-item.is c.candidates.invariant (c.bytes.ensures ∙ c.in_ok-line.ensures) c.in_ok-extend.ensures.ok
