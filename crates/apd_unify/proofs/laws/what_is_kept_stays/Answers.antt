use Rattle.apd_cells.specs.Store.{at_mark}
use Rattle.apd_cells.specs.Undone.{undone}
use Rattle.apd_cells.proofs.Longer.{more_term, sound_at_mark}
use Rattle.apd_cells.proofs.Undone.{undone_front, undone_more, undone_nothing}
use Rattle.apd_unify.proofs.laws.what_is_kept_stays.Goals as goal

pub returns-clause-front : goal.returns-clause-front
returns-clause-front c = undone_front

pub returns-clause-more : goal.returns-clause-more
returns-clause-more c = undone_more

pub returns-clause-terms : goal.returns-clause-terms
returns-clause-terms c kept k at s h l = more_term (at_mark k s) (undone kept k s) at (undone_more kept k s h) (sound_at_mark k s h) l

pub returns-clause-none : goal.returns-clause-none
returns-clause-none c = undone_nothing
