use Rattle.std.proofs.Common.{◌≡◌, ◌≢◌, ◌-◌, arith, drop, false, get_or, refl, rules, subst, take, true}
use Rattle.apd_term.specs.Term.{first_of, read_all, term_of}
use Rattle.apd_term.specs.declared.term.Sym.TheVariants.{Var}
use Rattle.apd_term.proofs.Spelling.{term_of_from_spelled, whole_from_spelled}
use Rattle.apd_term.proofs.Matched.{piece_symbols}
use Rattle.apd_cells.proofs.Bindings.{Keeps-self}
use Rattle.apd_cells.proofs.Written.{IsTerms-drop}
use Rattle.apd_unify.specs.Heads.{Matches}
use Rattle.apd_unify.proofs.Matched.{gone_self, matches_clash, matches_there}
use Rattle.apd_unify.proofs.heads.meet_symbol.Goals as goal

pub returns-then-eq-clause-gone : goal.returns-then-eq-clause-gone
returns-then-eq-clause-gone c = gone_self c.args.heap.now c.args.slots.now.items c.requires.slots

pub returns-then-eq-clause-kept : goal.returns-then-eq-clause-kept
returns-then-eq-clause-kept c = Keeps-self c.args.heap.now

pub returns-in_default : goal.returns-in_default
returns-in_default c =
    let d : c.symbol-symbol.result ≢ get_or c.args.head.now c.args.from (Var 0) = search rules in
    record {
      met = matches_clash c.args.heap.now c.args.heap.now c.args.slots.now.items c.args.slots.now.items c.args.at c.follow-end.result c.symbol-symbol.result (get_or c.args.head.now c.args.from (Var 0))
          c.args.head.now c.args.from c.follow-end.ensures.store c.follow-end.ensures.inside c.follow-end.ensures.end c.follow-end.ensures.same c.symbol-symbol.ensures.symbol c.in_default.not-Var
          refl c.requires.fixed d c.requires.there (IsTerms-drop c.args.from c.args.head.now c.requires.head);
      gone = gone_self c.args.heap.now c.args.slots.now.items c.requires.slots;
      store = c.follow-end.ensures.store;
      kept = Keeps-self c.args.heap.now;
      more = omega arith;
    }

pub term_end-past-requires-clause-whole : goal.term_end-past-requires-clause-whole
term_end-past-requires-clause-whole c = IsTerms-drop c.args.from c.args.head.now c.requires.head

pub match_loaded-requires-clause-whole : goal.match_loaded-requires-clause-whole
match_loaded-requires-clause-whole c =
    whole_from_spelled (take (c.term_end-past.result - c.args.from) (drop c.args.from c.args.head.now)) (first_of (read_all (drop c.args.from c.args.head.now)))
    (piece_symbols c.args.head.now c.args.from c.term_end-past.result (IsTerms-drop c.args.from c.args.head.now c.requires.head) c.requires.there c.term_end-past.ensures.end)

pub returns-then-not-branch-clause-met : goal.returns-then-not-branch-clause-met
returns-then-not-branch-clause-met c =
    let symbols = take (c.term_end-past.result - c.args.from) (drop c.args.from c.args.head.now) in
    let t = first_of (read_all (drop c.args.from c.args.head.now)) in
    let is : term_of symbols ≡ t =
    term_of_from_spelled symbols t (piece_symbols c.args.head.now c.args.from c.term_end-past.result (IsTerms-drop c.args.from c.args.head.now c.requires.head) c.requires.there c.term_end-past.ensures.end) in
    let m : Matches false c.args.heap.now c.match_loaded.new.heap c.args.slots.now.items c.match_loaded.new.slots.items c.follow-end.result (term_of symbols) =
    subst (λ b. Matches b c.args.heap.now c.match_loaded.new.heap c.args.slots.now.items c.match_loaded.new.slots.items c.follow-end.result (term_of symbols)) c.if-not-branch.true c.in_ok-match_loaded.ensures.answer in
    matches_there false c.args.heap.now c.match_loaded.new.heap c.args.slots.now.items c.match_loaded.new.slots.items c.args.at c.follow-end.result t c.follow-end.ensures.same
    (subst (Matches false c.args.heap.now c.match_loaded.new.heap c.args.slots.now.items c.match_loaded.new.slots.items c.follow-end.result) is m)

pub returns-clause-met : goal.returns-clause-met
returns-clause-met c =
    let symbols = take (c.term_end-past.result - c.args.from) (drop c.args.from c.args.head.now) in
    let t = first_of (read_all (drop c.args.from c.args.head.now)) in
    let is : term_of symbols ≡ t =
    term_of_from_spelled symbols t (piece_symbols c.args.head.now c.args.from c.term_end-past.result (IsTerms-drop c.args.from c.args.head.now c.requires.head) c.requires.there c.term_end-past.ensures.end) in
    let m : Matches true c.args.heap.now c.match_loaded.new.heap c.args.slots.now.items c.match_loaded.new.slots.items c.follow-end.result (term_of symbols) =
    subst (λ b. Matches b c.args.heap.now c.match_loaded.new.heap c.args.slots.now.items c.match_loaded.new.slots.items c.follow-end.result (term_of symbols)) c.if-not-branch.false c.in_ok-match_loaded.ensures.answer in (
      matches_there true c.args.heap.now c.match_loaded.new.heap c.args.slots.now.items c.match_loaded.new.slots.items c.args.at c.follow-end.result t c.follow-end.ensures.same
          (subst (Matches true c.args.heap.now c.match_loaded.new.heap c.args.slots.now.items c.match_loaded.new.slots.items c.follow-end.result) is m),
      c.term_end-past.ensures.end,
    )
