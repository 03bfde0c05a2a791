use Rattle.std.proofs.Common.{◌≡◌, ◌∷◌, ◌+◌, ◌-◌, ◌<◌, ◌≤◌, ◌^◌, arith, drop, length, refl, subst, sym}
use Rattle.apd_term.specs.Term.{first_of, read_all, size, IsTerms}
use Rattle.apd_term.proofs.Spelling.{size_positive}
use Rattle.apd_cells.proofs.Keeping.{Keeps-trans}
use Rattle.apd_cells.proofs.Passing.{run_inside}
use Rattle.apd_cells.proofs.Written.{IsTerms-spell}
use Rattle.apd_cells.specs.Stored.{Stored}
use Rattle.apd_cells.specs.Work.{Leads}
use Rattle.apd_unify.specs.Heads.{Meets}
use Rattle.apd_unify.specs.declared.heads.Met.TheVariants.{Clash, Past, Symbol}
use Rattle.apd_unify.proofs.Matched.{gone_trans}
use Rattle.apd_unify.proofs.Turning.{matching_none, matching_last, matching_over, matching_on, matching_clash, matching_whole, matching_met, reads_at, runs_then, more_cells}
use Rattle.apd_unify.proofs.heads.unify_head.Goals as goal

pub symbols-init : goal.symbols-init
symbols-init c =
    matching_none c.args.heap.now c.clear.new.self.items c.args.goal c.args.head.now (record { at = c.args.goal; left = 1 }) c.clear-2.new.self c.symbols-symbols.result.now
    c.requires c.clear.ensures.items c.clear-2.ensures refl c.symbols-symbols.ensures

pub returns-in_default-clause-answer : goal.returns-in_default-clause-answer
returns-in_default-clause-answer c =
    matching_over c.args.heap.now c.symbols.heap c.symbols.slots.items c.args.goal c.args.head.now c.symbols.here c.symbols.runs c.next_run.new.rest
    c.symbols-symbols.result.now c.symbols.from c.symbols.invariant c.in_default.ensures

pub returns-in_default-clause-gone : goal.returns-in_default-clause-gone
returns-in_default-clause-gone c = c.symbols.invariant.gone

pub returns-in_default-clause-kept : goal.returns-in_default-clause-kept
returns-in_default-clause-kept c = c.symbols.invariant.gone.keeps

pub returns-in_default-clause-more : goal.returns-in_default-clause-more
returns-in_default-clause-more c = more_cells c.args.heap.now c.symbols.heap _ c.symbols.slots.items c.symbols.invariant.gone

pub meet_term-requires-clause-at : goal.meet_term-requires-clause-at
meet_term-requires-clause-at c =
    let h = matching_on c.args.heap.now c.symbols.heap c.symbols.slots.items c.args.goal c.args.head.now c.symbols.here c.in-Some.next c.symbols.runs c.next_run.new.rest
    c.symbols-symbols.result.now c.symbols.from c.symbols.invariant c.in-Some.ensures in
    run_inside c.symbols.heap.cells c.in-Some.next.at c.in-Some.next.left h.right.0 c.in-Some.ensures.0

pub meet_term-requires-clause-head : goal.meet_term-requires-clause-head
meet_term-requires-clause-head c = subst IsTerms (sym c.symbols-symbols.ensures) (IsTerms-spell c.args.head.now)

pub meet_term-requires-clause-slots : goal.meet_term-requires-clause-slots
meet_term-requires-clause-slots c = c.symbols.invariant.gone.slots

pub returns-in_err-meet_term-clause-kept : goal.returns-in_err-meet_term-clause-kept
returns-in_err-meet_term-clause-kept c = Keeps-trans c.args.heap.now c.symbols.heap c.meet_term.new.heap c.symbols.invariant.gone.keeps c.in_err-meet_term.ensures.kept

pub returns-in_err-meet_term-clause-more : goal.returns-in_err-meet_term-clause-more
returns-in_err-meet_term-clause-more c =
    let l : length c.args.heap.now.cells ≤ length c.symbols.heap.cells = more_cells c.args.heap.now c.symbols.heap _ c.symbols.slots.items c.symbols.invariant.gone in
    omega (arith, l, c.in_err-meet_term.ensures.more)

pub returns-in-Clash-clause-answer : goal.returns-in-Clash-clause-answer
returns-in-Clash-clause-answer c =
    let h = matching_on c.args.heap.now c.symbols.heap c.symbols.slots.items c.args.goal c.args.head.now c.symbols.here c.in-Some.next c.symbols.runs c.next_run.new.rest
    c.symbols-symbols.result.now c.symbols.from c.symbols.invariant c.in-Some.ensures in
    let terms : IsTerms c.symbols-symbols.result.now = subst IsTerms (sym c.symbols-symbols.ensures) (IsTerms-spell c.args.head.now) in
    let t = first_of (read_all (drop c.symbols.from c.symbols-symbols.result.now)) in
    let m : Meets Clash c.symbols.heap c.meet_term.new.heap c.symbols.slots.items c.meet_term.new.slots.items c.in-Some.next.at c.symbols-symbols.result.now c.symbols.from =
    subst (λ z. Meets z c.symbols.heap c.meet_term.new.heap c.symbols.slots.items c.meet_term.new.slots.items c.in-Some.next.at c.symbols-symbols.result.now c.symbols.from) c.in-Clash.is c.in_ok-meet_term.ensures.met in
    matching_clash c.args.heap.now c.symbols.heap c.meet_term.new.heap c.symbols.slots.items c.meet_term.new.slots.items c.args.goal c.args.head.now c.in-Some.next c.next_run.new.rest
    c.symbols-symbols.result.now c.symbols.from (c.symbols.from + size t) t c.in_ok-meet_term.ensures.store h c.in-Some.ensures.0 c.in_ok-meet_term.ensures.gone
    (reads_at c.symbols-symbols.result.now c.symbols.from (c.symbols.from + size t) terms c.symbols-test.true refl) m

pub returns-in-Clash-clause-gone : goal.returns-in-Clash-clause-gone
returns-in-Clash-clause-gone c = gone_trans c.args.heap.now c.symbols.heap c.meet_term.new.heap _ c.symbols.slots.items c.meet_term.new.slots.items c.symbols.invariant.gone c.in_ok-meet_term.ensures.gone

pub returns-in-Clash-clause-kept : goal.returns-in-Clash-clause-kept
returns-in-Clash-clause-kept c = Keeps-trans c.args.heap.now c.symbols.heap c.meet_term.new.heap c.symbols.invariant.gone.keeps c.in_ok-meet_term.ensures.kept

pub returns-in-Clash-clause-more : goal.returns-in-Clash-clause-more
returns-in-Clash-clause-more c =
    let l : length c.args.heap.now.cells ≤ length c.symbols.heap.cells = more_cells c.args.heap.now c.symbols.heap _ c.symbols.slots.items c.symbols.invariant.gone in
    omega (arith, l, c.in_ok-meet_term.ensures.more)

pub past_first-here-requires-clause-right : goal.past_first-here-requires-clause-right
past_first-here-requires-clause-right c =
    let h = matching_on c.args.heap.now c.symbols.heap c.symbols.slots.items c.args.goal c.args.head.now c.symbols.here c.in-Some.next c.symbols.runs c.next_run.new.rest
    c.symbols-symbols.result.now c.symbols.from c.symbols.invariant c.in-Some.ensures in
    (runs_then c.symbols.heap c.meet_term.new.heap c.symbols.slots.items c.meet_term.new.slots.items (c.in-Some.next ∷ c.next_run.new.rest) c.in_ok-meet_term.ensures.store c.in_ok-meet_term.ensures.gone h.right).0

pub symbols-preserved-in-Past : goal.symbols-preserved-in-Past
symbols-preserved-in-Past c =
    let h = matching_on c.args.heap.now c.symbols.heap c.symbols.slots.items c.args.goal c.args.head.now c.symbols.here c.in-Some.next c.symbols.runs c.next_run.new.rest
    c.symbols-symbols.result.now c.symbols.from c.symbols.invariant c.in-Some.ensures in
    let terms : IsTerms c.symbols-symbols.result.now = subst IsTerms (sym c.symbols-symbols.ensures) (IsTerms-spell c.args.head.now) in
    let t = first_of (read_all (drop c.symbols.from c.symbols-symbols.result.now)) in
    let m : Meets (Past c.in-Past.end) c.symbols.heap c.meet_term.new.heap c.symbols.slots.items c.meet_term.new.slots.items c.in-Some.next.at c.symbols-symbols.result.now c.symbols.from =
    subst (λ z. Meets z c.symbols.heap c.meet_term.new.heap c.symbols.slots.items c.meet_term.new.slots.items c.in-Some.next.at c.symbols-symbols.result.now c.symbols.from) c.in-Past.is c.in_ok-meet_term.ensures.met in
    matching_whole c.args.heap.now c.symbols.heap c.meet_term.new.heap c.symbols.slots.items c.meet_term.new.slots.items c.args.goal c.args.head.now c.in-Some.next c.next_run.new.rest
    c.symbols-symbols.result.now c.symbols.from c.in-Past.end t c.in_ok-meet_term.ensures.store h c.in-Some.ensures.0 c.in_ok-meet_term.ensures.gone
    (reads_at c.symbols-symbols.result.now c.symbols.from c.in-Past.end terms c.symbols-test.true m.1) c.past_first-here.result c.past_first-here.ensures m.0

pub symbols-smaller-in-Past : goal.symbols-smaller-in-Past
symbols-smaller-in-Past c =
    let t = first_of (read_all (drop c.symbols.from c.symbols-symbols.result.now)) in
    let m : Meets (Past c.in-Past.end) c.symbols.heap c.meet_term.new.heap c.symbols.slots.items c.meet_term.new.slots.items c.in-Some.next.at c.symbols-symbols.result.now c.symbols.from =
    subst (λ z. Meets z c.symbols.heap c.meet_term.new.heap c.symbols.slots.items c.meet_term.new.slots.items c.in-Some.next.at c.symbols-symbols.result.now c.symbols.from) c.in-Past.is c.in_ok-meet_term.ensures.met in
    let e : c.in-Past.end ≡ c.symbols.from + size t = m.1 in
    let less : length c.symbols-symbols.result.now - c.in-Past.end < length c.symbols-symbols.result.now - c.symbols.from = omega (arith, e, size_positive t, c.symbols-test.true) in less

pub under-requires-clause-right : goal.under-requires-clause-right
under-requires-clause-right c =
    let h = matching_on c.args.heap.now c.symbols.heap c.symbols.slots.items c.args.goal c.args.head.now c.symbols.here c.in-Some.next c.symbols.runs c.next_run.new.rest
    c.symbols-symbols.result.now c.symbols.from c.symbols.invariant c.in-Some.ensures in
    runs_then c.symbols.heap c.meet_term.new.heap c.symbols.slots.items c.meet_term.new.slots.items (c.in-Some.next ∷ c.next_run.new.rest) c.in_ok-meet_term.ensures.store c.in_ok-meet_term.ensures.gone h.right

pub under-requires-clause-leads : goal.under-requires-clause-leads
under-requires-clause-leads c =
    let m : Meets (Symbol c.in-Symbol.end) c.symbols.heap c.meet_term.new.heap c.symbols.slots.items c.meet_term.new.slots.items c.in-Some.next.at c.symbols-symbols.result.now c.symbols.from =
    subst (λ z. Meets z c.symbols.heap c.meet_term.new.heap c.symbols.slots.items c.meet_term.new.slots.items c.in-Some.next.at c.symbols-symbols.result.now c.symbols.from) c.in-Symbol.is c.in_ok-meet_term.ensures.met in
    subst (λ s. Leads s c.in-Some.next.at c.in-Symbol.end) (sym m.same) m.leads

pub under-requires-clause-fits : goal.under-requires-clause-fits
under-requires-clause-fits c =
    let m : Meets (Symbol c.in-Symbol.end) c.symbols.heap c.meet_term.new.heap c.symbols.slots.items c.meet_term.new.slots.items c.in-Some.next.at c.symbols-symbols.result.now c.symbols.from =
    subst (λ z. Meets z c.symbols.heap c.meet_term.new.heap c.symbols.slots.items c.meet_term.new.slots.items c.in-Some.next.at c.symbols-symbols.result.now c.symbols.from) c.in-Symbol.is c.in_ok-meet_term.ensures.met in
    subst (λ (s : Stored). length s.cells < 2 ^ 64) (sym m.same) m.fits

pub returns-in_err-here-in-Symbol-clause-kept : goal.returns-in_err-here-in-Symbol-clause-kept
returns-in_err-here-in-Symbol-clause-kept c = Keeps-trans c.args.heap.now c.symbols.heap c.meet_term.new.heap c.symbols.invariant.gone.keeps c.in_ok-meet_term.ensures.kept

pub returns-in_err-here-in-Symbol-clause-more : goal.returns-in_err-here-in-Symbol-clause-more
returns-in_err-here-in-Symbol-clause-more c =
    let l : length c.args.heap.now.cells ≤ length c.symbols.heap.cells = more_cells c.args.heap.now c.symbols.heap _ c.symbols.slots.items c.symbols.invariant.gone in
    omega (arith, l, c.in_ok-meet_term.ensures.more)

pub symbols-preserved : goal.symbols-preserved
symbols-preserved c =
    let h = matching_on c.args.heap.now c.symbols.heap c.symbols.slots.items c.args.goal c.args.head.now c.symbols.here c.in-Some.next c.symbols.runs c.next_run.new.rest
    c.symbols-symbols.result.now c.symbols.from c.symbols.invariant c.in-Some.ensures in
    let terms : IsTerms c.symbols-symbols.result.now = subst IsTerms (sym c.symbols-symbols.ensures) (IsTerms-spell c.args.head.now) in
    let m : Meets (Symbol c.in-Symbol.end) c.symbols.heap c.meet_term.new.heap c.symbols.slots.items c.meet_term.new.slots.items c.in-Some.next.at c.symbols-symbols.result.now c.symbols.from =
    subst (λ z. Meets z c.symbols.heap c.meet_term.new.heap c.symbols.slots.items c.meet_term.new.slots.items c.in-Some.next.at c.symbols-symbols.result.now c.symbols.from) c.in-Symbol.is c.in_ok-meet_term.ensures.met in
    matching_met c.args.heap.now c.symbols.heap c.meet_term.new.heap c.symbols.slots.items c.meet_term.new.slots.items c.args.goal c.args.head.now c.in-Some.next _ c.next_run.new.rest c.under.new.rest
    c.symbols-symbols.result.now c.symbols.from c.in-Symbol.end _ c.in_ok-meet_term.ensures.store h c.in-Some.ensures.0 terms c.symbols-test.true m c.in_ok-here-in-Symbol.ensures.passes

pub returns-clause-answer : goal.returns-clause-answer
returns-clause-answer c =
    matching_last c.args.heap.now c.symbols.heap c.symbols.slots.items c.args.goal c.args.head.now (c.symbols.here ∷ c.symbols.runs) c.symbols-symbols.result.now c.symbols.from c.symbols.invariant c.symbols-test.false

pub returns-clause-gone : goal.returns-clause-gone
returns-clause-gone c = c.symbols.invariant.gone

pub returns-clause-kept : goal.returns-clause-kept
returns-clause-kept c = c.symbols.invariant.gone.keeps

pub returns-clause-more : goal.returns-clause-more
returns-clause-more c = more_cells c.args.heap.now c.symbols.heap _ c.symbols.slots.items c.symbols.invariant.gone
