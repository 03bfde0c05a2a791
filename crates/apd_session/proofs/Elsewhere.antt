-- What a session wrote holds by any numbering of names.
use Rattle.std.proofs.Common.{List, ℕ}
use Rattle.apd_numbering.proofs.HeldElsewhere.{found-elsewhere}
use Rattle.apd_read.specs.Reader.{Reader}
use Rattle.apd_talk.specs.Utterance.{entries_of, texts_of}
use Rattle.apd_upheld.specs.Good.{count_found}
use Rattle.apd_written.specs.Claims.{all_claims}
use Rattle.apd_session.specs.Session.{World}
use Rattle.apd_session.specs.Written.{WroteWhatHoldsElsewhere, uttered_in}
use Rattle.apd_session.proofs.Upheld.{written-holds}

pub checked-elsewhere : {names : List (List ℕ)} (reader : Reader names) (words : List (List ℕ)) (world : World) → WroteWhatHoldsElsewhere words reader world
checked-elsewhere {names} reader words world all x n given others a result found =
    let h = written-holds reader all words world x.heard x.kept x.meanings x.in_size x.sayable x.short in
    found-elsewhere n x.heard.start.state.program x.heard.ops x.heard.start.state.replies names others reader (texts_of (uttered_in words reader world)) (count_found (all_claims (entries_of (uttered_in words reader world)))) result given a h.1 h.0 found
