use Rattle.std.proofs.Common.{ℕ, List, subst, sym}
use Rattle.std.specs.Prelude.{nat_eq}
use Rattle.indexmap.specs.IndexMap.{get}
use Rattle.apd_index.specs.declared.columns.ColumnEntry.{ColumnEntry}
use Rattle.apd_index.specs.Chains.{entries_from}
use Rattle.apd_index.specs.Columns.{Agree, HasEntries, IsUnlike, column_at}
use Rattle.apd_index.proofs.Linked.{last-column, last-within}
use Rattle.apd_index.proofs.Unequal.{each-of}
use Rattle.apd_index.proofs.repeats.strike_repeat.Goals as goal

pub returns-then-is_of : goal.returns-then-is_of
returns-then-is_of c = λ k h agree.
    let is = c.is_of.ensures c.if-is_of.true in
    c.leave_out.ensures k h
    (λ differs.
    each-of (IsUnlike c.args.columns.now) (get nat_eq c.args.unlikes.now.pairs c.key_of.result) c.in-Some.unlike.now (c.requires.unlikes.pairs c.key_of.result) (sym c.in-Some.ensures.value) k differs
    (subst (λ (p : ℕ). Agree (column_at c.args.columns.now p) (column_at c.args.columns.now c.in-Some.unlike.now.other) k) (sym is.0)
    (subst (λ (p : ℕ). Agree (column_at c.args.columns.now c.args.repeat.one) (column_at c.args.columns.now p) k) (sym is.1) agree)))

pub strike-requires-clause-falling : goal.strike-requires-clause-falling
strike-requires-clause-falling c = subst HasEntries (sym c.as_slice.ensures.value) c.requires.columns.falling

pub strike-requires-clause-one : goal.strike-requires-clause-one
strike-requires-clause-one c = last-within c.args.columns.now c.as_slice.result.now c.args.repeat.one c.last.result c.as_slice.ensures.value c.last.ensures c.requires.columns

pub strike-requires-clause-other : goal.strike-requires-clause-other
strike-requires-clause-other c = last-within c.args.columns.now c.as_slice.result.now c.args.repeat.other c.last-2.result c.as_slice.ensures.value c.last-2.ensures c.requires.columns

pub returns : goal.returns
returns c = λ k h agree.
    c.strike.ensures k h
    (subst (λ (ones : List ColumnEntry). Agree ones (entries_from c.as_slice.result.now c.last-2.result) k) (sym (last-column c.args.columns.now c.as_slice.result.now c.args.repeat.one c.last.result c.as_slice.ensures.value c.last.ensures))
    (subst (λ (others : List ColumnEntry). Agree (column_at c.args.columns.now c.args.repeat.one) others k) (sym (last-column c.args.columns.now c.as_slice.result.now c.args.repeat.other c.last-2.result c.as_slice.ensures.value c.last-2.ensures)) agree))
