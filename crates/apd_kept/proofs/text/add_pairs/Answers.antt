use Rattle.std.proofs.Common.{◌≡◌, ◌∙◌, append_assoc, ℕ, ◌+◌, ◌<◌, zero, suc, List, [], ◌∷◌, ◌++◌, ap, arith, drop, length, subst, sym, take}
use Rattle.std.specs.List.{AllByRecursion}
use Rattle.std.specs.Prelude.{IfSome, flat_map, slice_get}
use Rattle.std.proofs.lemmas.List.{append-nil}
use Rattle.apd_answers.specs.declared.store.Pair.{Pair}
use Rattle.apd_reading_back.specs.Law.{IsInRange}
use Rattle.apd_kept.specs.Kept.{pair_line, pair_term}
use Rattle.apd_kept.proofs.text.add_pairs.Goals as goal

-- one line more
line_more : (f : Pair → List ℕ) (ps : List Pair) (i : ℕ) (line : List ℕ) → i < length ps → IfSome (slice_get ps i) (λ p. line ≡ f p) → flat_map f (take i ps) ++ line ≡ flat_map f (take (i + 1) ps)
line_more f [] i line lt is = absurd (omega (arith, lt))
line_more f (p ∷ ps) zero line lt is = is ∙ sym (append-nil (f p))
line_more f (p ∷ ps) (suc i) line lt is =
    append_assoc (f p) (flat_map f (take i ps)) line ∙ ap (λ (l : List ℕ). f p ++ l) (line_more f ps i line (omega (arith, lt)) is)
    ∙ ap (λ k. flat_map f (take k (p ∷ ps))) next
  where
    next : suc (i + 1) ≡ suc i + 1
    next = omega arith

added : (head all line text more : List ℕ) → text ≡ head ++ all → more ≡ text ++ line → more ≡ head ++ (all ++ line)
added head all line text more is so = so ∙ ap (λ (l : List ℕ). l ++ line) is ∙ append_assoc head all line

-- what holds at a place and behind it
range_more : (ps : List Pair) (i : ℕ) → IfSome (slice_get ps i) (λ (p : Pair). IsInRange (pair_term p)) → AllByRecursion (λ (p : Pair). IsInRange (pair_term p)) (drop (i + 1) ps) → AllByRecursion (λ (p : Pair). IsInRange (pair_term p)) (drop i ps)
range_more [] zero here rest = tt
range_more [] (suc i) here rest = tt
range_more (p ∷ ps) zero here rest = (here, rest)
range_more (p ∷ ps) (suc i) here rest =
    range_more ps i here (subst (λ (k : ℕ). AllByRecursion (λ (q : Pair). IsInRange (pair_term q)) (drop k (p ∷ ps))) next rest)
  where
    next : suc i + 1 ≡ suc (i + 1)
    next = omega arith

pub pairs-init : goal.pairs-init
pairs-init c = (sym (append-nil c.args.out.now), λ all. all)

pub pairs-preserved : goal.pairs-preserved
pairs-preserved c =
    let ps : List Pair = c.args.answers.now.pairs in
    let f : Pair → List ℕ = pair_line c.args.ops.now c.args.names.now in (
      added c.args.out.now (flat_map f (take c.pairs.i ps)) c.bytes.result.now c.pairs.out c.extend.new.self c.pairs.invariant.0 c.in_ok-extend.ensures.ok
          ∙ ap (λ (l : List ℕ). c.args.out.now ++ (flat_map f (take c.pairs.i ps) ++ l)) c.bytes.ensures
          ∙ ap (λ (l : List ℕ). c.args.out.now ++ l) (line_more f ps c.pairs.i c.in_ok-line.line (omega arith) c.in_ok-line.ensures.line),
      λ rest. c.pairs.invariant.1 (range_more ps c.pairs.i c.in_ok-line.ensures.range rest),
    )
