use Rattle.apd_debug.proofs.Going.{diagnosed_so, named_reached}
use Rattle.apd_debug.proofs.laws.a_diagnosis_converses.Goals as goal

pub returns : goal.returns
returns g c = λ b conversing keeps. record {
  course = diagnosed_so b.diagnosis b.found g.K.Known.is_known keeps g.O.Oracle.step conversing b.replies b.state b.reader b.ops b.talker b.hears;
  named = named_reached b.diagnosis b.found g.K.Known.is_known keeps g.O.Oracle.step conversing;
}
