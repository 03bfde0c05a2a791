use Rattle.apd_record.proofs.Opening.{told_box, told_noted, told_on, told_point}
use Rattle.apd_record.proofs.laws.open_records_tell.Goals as goal

pub returns : goal.returns
returns c = record { called = told_box; made = told_point; noted = told_noted; more = told_on }
