use Rattle.apd_record.proofs.Opening.{in_box, in_none, in_noted, in_on, in_point}
use Rattle.apd_record.proofs.laws.open_records_name_what_is_kept.Goals as goal

pub returns : goal.returns
returns c = record { none = in_none; called = in_box; made = in_point; noted = in_noted; more = in_on }
