use Rattle.std.proofs.Common.{◌≡◌, ◌∷◌, ◌++◌, ◌∙◌, ap, length, sym, take, arith}
use Rattle.std.proofs.lemmas.List.{length-map}
use Rattle.apd_intern.specs.Nodes.{term_at}
use Rattle.apd_record.specs.Kept.{seen}
use Rattle.apd_record.proofs.KeptRows.{front_on}
use Rattle.apd_record.proofs.Written.{front_put, put_next, put_whole, put_within}
use Rattle.apd_record.proofs.kept.put_tuple.Goals as goal

pub goals-init : goal.goals-init
goals-init c = record { terms = c.put_place.ensures.terms; there = c.put_place.ensures.there; seen = c.in_ok-put_place.ensures.ok }

pub goals-preserved : goal.goals-preserved
goals-preserved c = record {
  terms = front_on c.args.terms.now c.goals.terms c.put_place-in-goals.new.terms c.goals.invariant.terms c.put_place-in-goals.ensures.terms;
  there = c.put_place-in-goals.ensures.there;
  seen =
      put_next (seen c.args.terms.now c.args.places.now.items) (seen c.goals.terms c.goals.places.items) (seen c.put_place-in-goals.new.terms c.put_place-in-goals.new.places.items) c.args.tuple.now.head c.index-body-k.result
      c.as_slice-body.result.now c.goals.k (omega (arith, c.goals-test.true, c.goals.auto.k-end)) c.goals.invariant.seen c.index-body-k.is c.in_ok-put_place-2.ensures.ok;
}

pub returns-in_err-put_place-2-clause-terms : goal.returns-in_err-put_place-2-clause-terms
returns-in_err-put_place-2-clause-terms c = front_on c.args.terms.now c.goals.terms c.put_place-in-goals.new.terms c.goals.invariant.terms c.put_place-in-goals.ensures.terms

pub returns-in_err-put_place-2-clause-seen : goal.returns-in_err-put_place-2-clause-seen
returns-in_err-put_place-2-clause-seen c = front_put _ _ (c.args.tuple.now.head ∷ take c.goals.k c.as_slice-body.result.now) (c.in_err-put_place-2.ensures.err ∙ c.goals.invariant.seen)

pub returns-clause-seen : goal.returns-clause-seen
returns-clause-seen c = front_put _ _ (c.args.tuple.now.head ∷ take c.goals.k c.as_slice-body.result.now) c.goals.invariant.seen

pub returns-clause-within : goal.returns-clause-within
returns-clause-within c =
    let was = seen c.args.terms.now c.args.places.now.items in
    let from : c.len-from.result ≡ length was = omega (arith, length-map c.args.places.now.items (term_at c.args.terms.now), c.args.places.now.ok.0) in
    put_within was c.goals.terms c.goals.places.items c.args.tuple.now.head c.as_slice-body.result.now c.len-from.result c.goals.k c.len-goals.result c.goals.invariant.seen from
    (omega (arith, c.goals-test.false, c.goals.auto.k-end)) (c.len-goals.ensures ∙ ap length (sym c.as_slice-body.ensures))

pub returns-clause-tuple : goal.returns-clause-tuple
returns-clause-tuple c =
    let was = seen c.args.terms.now c.args.places.now.items in
    let from : c.len-from.result ≡ length was = omega (arith, length-map c.args.places.now.items (term_at c.args.terms.now), c.args.places.now.ok.0) in
    put_whole was (seen c.goals.terms c.goals.places.items) c.args.tuple.now c.len-from.result c.goals.k c.len-goals.result
    (c.goals.invariant.seen ∙ ap (λ b. seen c.args.terms.now c.args.places.now.items ++ c.args.tuple.now.head ∷ take c.goals.k b) c.as_slice-body.ensures) from
    (omega (arith, c.goals-test.false, c.goals.auto.k-end, ap length c.as_slice-body.ensures)) c.len-goals.ensures
