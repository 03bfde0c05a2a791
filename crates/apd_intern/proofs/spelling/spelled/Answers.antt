use Rattle.std.proofs.Common.{ap, ◌∙◌, ◌≡◌, ◌<◌, ◌++◌, ◌∷◌, [], arith, sym, reverse, length, get_or, Some, List, ℕ}
use Rattle.std.proofs.lemmas.Option.{slice_get-get_or}
use Rattle.apd_term.specs.Term.{variable, spell}
use Rattle.apd_term.proofs.Spelling.{whole_from_spelled, term_of_from_spelled}
use Rattle.apd_intern.specs.declared.node.TermNode.TheVariants.{Variable}
use Rattle.apd_intern.specs.Nodes.{decoded, term_at, IsLinked}
use Rattle.apd_intern.specs.Pending.{places_left}
use Rattle.apd_intern.proofs.Decoding.{length-decoded}
use Rattle.apd_intern.proofs.Spelled.{one_more, next_linked, all_spelled, spelled_at}
use Rattle.apd_intern.proofs.spelling.spelled.Goals as goal

pub places-smaller : goal.places-smaller
places-smaller c =
    let left : List ℕ = places_left c.args.links.now (reverse c.places.pending.items) in
    let rest : List ℕ = places_left c.args.links.now (reverse c.next_place.new.pending.items) in
    let later : List ℕ = places_left c.args.links.now (reverse c.push_arguments.new.pending.items) in
    let e : left ≡ c.in-Some.next ∷ rest = rw c.in-Some.is at c.in_ok-next.ensures.next in
    let linked : IsLinked c.args.links.now (get_or c.args.nodes.now c.in-Some.next (Variable 0)) = next_linked c.args.links.now c.args.nodes.now left rest c.in-Some.next c.requires.table e c.places.invariant.there in
    (one_more c.args.links.now c.args.nodes.now c.places.symbols (spell (term_at (decoded c.args.links.now c.args.nodes.now) c.args.place)) left rest later c.in-Some.next c.requires.table e c.places.invariant.there c.places.invariant.spelled (c.in_ok-push_arguments.ensures.next c.args.links.now linked)).smaller

pub places-preserved : goal.places-preserved
places-preserved c =
    let left : List ℕ = places_left c.args.links.now (reverse c.places.pending.items) in
    let rest : List ℕ = places_left c.args.links.now (reverse c.next_place.new.pending.items) in
    let later : List ℕ = places_left c.args.links.now (reverse c.push_arguments.new.pending.items) in
    let e : left ≡ c.in-Some.next ∷ rest = rw c.in-Some.is at c.in_ok-next.ensures.next in
    let linked : IsLinked c.args.links.now (get_or c.args.nodes.now c.in-Some.next (Variable 0)) = next_linked c.args.links.now c.args.nodes.now left rest c.in-Some.next c.requires.table e c.places.invariant.there in
    let more = one_more c.args.links.now c.args.nodes.now c.places.symbols (spell (term_at (decoded c.args.links.now c.args.nodes.now) c.args.place)) left rest later c.in-Some.next c.requires.table e c.places.invariant.there c.places.invariant.spelled (c.in_ok-push_arguments.ensures.next c.args.links.now linked) in
    record {
      pending = c.in_ok-push_arguments.ensures.rest c.args.links.now linked c.in_ok-next.ensures.rest;
      there = more.there;
      spelled = ap (λ s. s ++ spelled_at c.args.links.now c.args.nodes.now later) (c.in_ok-push-2.ensures.ok ∙ ap (λ x. c.places.symbols ++ x ∷ []) c.symbol_of.ensures) ∙ more.spelled;
    }

pub of_symbols-requires : goal.of_symbols-requires
of_symbols-requires c =
    let left : List ℕ = places_left c.args.links.now (reverse c.places.pending.items) in
    let none : left ≡ [] = rw c.in_default.is at c.in_ok-next.ensures.none in
    whole_from_spelled c.places.symbols (term_at (decoded c.args.links.now c.args.nodes.now) c.args.place) (all_spelled c.args.links.now c.args.nodes.now c.places.symbols _ left none c.places.invariant.spelled)

pub returns : goal.returns
returns c =
    let left : List ℕ = places_left c.args.links.now (reverse c.places.pending.items) in
    let none : left ≡ [] = rw c.in_default.is at c.in_ok-next.ensures.none in
    let terms = decoded c.args.links.now c.args.nodes.now in
    let within : c.args.place < length terms = omega (arith, c.requires.place, length-decoded c.args.links.now c.args.nodes.now) in
    let is = term_of_from_spelled c.places.symbols (term_at terms c.args.place) (all_spelled c.args.links.now c.args.nodes.now c.places.symbols _ left none c.places.invariant.spelled) in
    slice_get-get_or terms c.args.place (variable 0) within ∙ ap Some (sym (c.of_symbols.ensures ∙ is))
