use Rattle.std.proofs.Common.{List, subst, sym}
use Rattle.apd_index.specs.Columns.{AreIn, column_at}
use Rattle.apd_index.specs.declared.columns.ColumnEntry.{ColumnEntry}
use Rattle.apd_index.proofs.Linked.{last-column}
use Rattle.apd_index.proofs.gathered.gather_newer.Goals as goal

pub returns-in_err-put_back : goal.returns-in_err-put_back
returns-in_err-put_back c =
    let column : List ColumnEntry = column_at c.args.columns.now c.args.number in
    let newer : AreIn column c.in_ok-newer.newer.items =
    subst (λ (es : List ColumnEntry). AreIn es c.in_ok-newer.newer.items) (last-column c.args.columns.now c.as_slice.result.now c.args.number c.last-last.result c.as_slice.ensures.value c.last-last.ensures) c.in_ok-newer.ensures in
    c.put_back.ensures column c.requires.gathered (subst (AreIn column) (sym c.as_slice-2.ensures.value) newer)

pub returns : goal.returns
returns c =
    let column : List ColumnEntry = column_at c.args.columns.now c.args.number in
    let newer : AreIn column c.in_ok-newer.newer.items =
    subst (λ (es : List ColumnEntry). AreIn es c.in_ok-newer.newer.items) (last-column c.args.columns.now c.as_slice.result.now c.args.number c.last-last.result c.as_slice.ensures.value c.last-last.ensures) c.in_ok-newer.ensures in
    c.put_back.ensures column c.requires.gathered (subst (AreIn column) (sym c.as_slice-2.ensures.value) newer)
