use Rattle.apd_by_hand.proofs.Making.{is_labelled}
use Rattle.apd_by_hand.proofs.two_clauses.found_in.Goals as goal

pub found_of-found-requires : goal.found_of-found-requires
found_of-found-requires c = rw (c.requires, c.in_ok-label.ensures) is_labelled
