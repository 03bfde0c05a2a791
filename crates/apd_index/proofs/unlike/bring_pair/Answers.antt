use Rattle.apd_index.specs.Columns.{column_at}
use Rattle.apd_index.proofs.Unequal.{unlike-more}
use Rattle.apd_index.proofs.unlike.bring_pair.Goals as goal

pub returns-in_err-walked : goal.returns-in_err-walked
returns-in_err-walked c = λ columns gathered.
    unlike-more (column_at columns c.args.unlike.now.one) (column_at columns c.args.unlike.now.other) c.entries_of-ones.result.now c.entries_of-others.result.now c.args.unlike.now.row c.walk.new.row
    (c.entries_of-ones.ensures columns gathered) (c.entries_of-others.ensures columns gathered) c.walk.ensures

pub returns : goal.returns
returns c = λ columns gathered.
    unlike-more (column_at columns c.args.unlike.now.one) (column_at columns c.args.unlike.now.other) c.entries_of-ones.result.now c.entries_of-others.result.now c.args.unlike.now.row c.walk.new.row
    (c.entries_of-ones.ensures columns gathered) (c.entries_of-others.ensures columns gathered) c.walk.ensures
