use Rattle.std.proofs.Common.{◌∷◌, ◌∙◌, ap, drop, refl}
use Rattle.apd_frames.proofs.Branching.{then_fewer, then_first, then_links, then_none, then_notes}
use Rattle.apd_frames.proofs.back.take_back.Goals as goal

pub hands-init : goal.hands-init
hands-init c = record { links = refl; notes = refl }

pub hands-preserved : goal.hands-preserved
hands-preserved c = record {
  links = then_links c.hands.links c.take.new.self c.hands.notes c.pop.new.self _ c.in-Some-Handed.number c.in-Some-Handed.point c.in-Some-Handed.ensures c.in-Some-Handed.field-0-is c.take.ensures c.pop.ensures ∙ c.hands.invariant.links;
  notes = then_notes c.hands.notes c.pop.new.self _ c.in-Some-Handed.number c.in-Some-Handed.point c.in-Some-Handed.ensures c.in-Some-Handed.field-0-is c.pop.ensures ∙ c.hands.invariant.notes;
}

pub hands-smaller : goal.hands-smaller
hands-smaller c = then_fewer c.hands.notes c.pop.new.self _ c.in-Some-Handed.ensures c.pop.ensures

pub returns-in-None-clause-links : goal.returns-in-None-clause-links
returns-in-None-clause-links c = (then_none c.hands.links c.hands.notes c.in-None.ensures).0 ∙ c.hands.invariant.links

pub returns-in-None-clause-notes : goal.returns-in-None-clause-notes
returns-in-None-clause-notes c = (then_none c.hands.links c.hands.notes c.in-None.ensures).1 ∙ c.hands.invariant.notes

pub returns-in-Some-Saved-clause-links : goal.returns-in-Some-Saved-clause-links
returns-in-Some-Saved-clause-links c = (then_first c.hands.links c.hands.notes _ c.in-Some-Saved.branch c.in-Some-Saved.ensures c.in-Some-Saved.field-0-is).0 ∙ c.hands.invariant.links

pub returns-in-Some-Saved-clause-notes : goal.returns-in-Some-Saved-clause-notes
returns-in-Some-Saved-clause-notes c = (then_first c.hands.links c.hands.notes _ c.in-Some-Saved.branch c.in-Some-Saved.ensures c.in-Some-Saved.field-0-is).1 ∙ c.hands.invariant.notes

pub returns-in-Some-Saved-clause-branch : goal.returns-in-Some-Saved-clause-branch
returns-in-Some-Saved-clause-branch c = c.in-Some-Saved.ensures ∙ ap (λ n. n ∷ drop 1 c.hands.notes) c.in-Some-Saved.field-0-is
