-- What was kept of frames.
use Rattle.std.proofs.Common.{◌≡◌, List, [], refl}
use Rattle.apd_term.specs.declared.tuple.Tuple.{Tuple}
use Rattle.apd_past.specs.History.{History}
use Rattle.apd_tuples.specs.Spots.{Place}
use Rattle.apd_tuples.specs.Tuples.{kept_tuples}
use Rattle.apd_frames.specs.Kept.{Kept}
use Rattle.apd_following.specs.Followed.{Followed}

abbrev pub followed : Kept → List Tuple → Followed
followed k ts = record { current = k.current; saved = k.saved; tuples = ts }

pub opened : (k k' : Kept) (h : History) (ps : List Place) → k ≡ k' → ps ≡ [] → followed k (kept_tuples h ps) ≡ followed k' []
opened k k' h ps e pe = rw (e, pe) refl

pub other_frames : (k k' : Kept) (ts : List Tuple) (now : Followed) → k' ≡ k → followed k ts ≡ now → followed k' ts ≡ now
other_frames k k' ts now e h = rw e h
