-- What a diagnosis keeps are replies to what may be asked, whose names are known, however it ends.
use Rattle.std.proofs.Common.{◌≡◌, ℕ, List, [], ◌∷◌, ◌++◌, length, refl, ap, ◌∙◌}
use Rattle.std.specs.Prelude.{Result, Ok, Err, MatchResult}
use Rattle.std.proofs.lemmas.List.{append-nil}
use Rattle.apd_answers.specs.Dialogue.{Diagnosis, Dialogue, Exchange, Turn, asks, dialogue, next_turn}
use Rattle.apd_answers.specs.Going.{Moment, Reaches, Broken, unasked, unanswered, unkept, untold, Breaks}
use Rattle.apd_answers.specs.Oracle.{Call, asking as asks_of, telling as tells, GoesThrough}
use Rattle.apd_answers.specs.declared.oracle.AskEnd.{AskEnd}
use Rattle.apd_answers.specs.Store.{Store}
use Rattle.apd_answers.specs.declared.question.Asked.{Asked}
use Rattle.apd_answers.specs.declared.question.Reply.{Reply}
use Rattle.apd_known.specs.Pairs.{MayAsk}
use Rattle.apd_known.proofs.Kept.{QuestionIsNamed-more}
use Rattle.apd_lines.proofs.Growing.{Grown-length}
use Rattle.apd_text.specs.Named.{QuestionIsNamed, ReplyIsNamed}
use Rattle.apd_text.specs.declared.entry.Entry.{Entry}
use Rattle.apd_debug.specs.Conversing.{Conversing}
use Rattle.apd_debug.specs.Known.{KeepsNamed}
use Rattle.apd_debug.specs.NamedStates.{AreReplies}
use Rattle.apd_debug.proofs.Going.{grown_through, known_through}
use Rattle.apd_debug.proofs.Known.{asked-may, asked-named}
use Rattle.apd_debug.proofs.NamedReplies.{AreReplies-more, with_pair-replies}

module _ {D E O : Type 0} (d : Diagnosis D E) (found : E → Entry) (IsKnown : ℕ → Store → D → Type 0) (keeps : KeepsNamed d found IsKnown) (step : O → Call → O → Type 0) (c : Conversing step) where
  abbrev count_at : O → ℕ
  count_at o = length (c.moment o).spoken.log.names

  -- a state is known, and so are the replies
  abbrev IsKnownToo : ℕ → Store → D → Type 0
  IsKnownToo n store s = IsKnown n store s × AreReplies n store

  keeps_too : KeepsNamed d found IsKnownToo
  keeps_too = record {
    more = λ n m store s less known. (keeps.more n m store s less known.0, AreReplies-more n m store less known.1);
    question = λ n store s asked next is known. keeps.question n store s asked next is known.0;
    may_ask = λ n store s asked next is known. keeps.may_ask n store s asked next is known.0;
    kept = λ n store s asked next r is o known. (keeps.kept n store s asked next r is o known.0, known.1);
    replied = λ n store s asked next r is fits named known. (
      keeps.replied n store s asked next r is fits named known.0,
      with_pair-replies n store asked.question r known.1 (record { asked = keeps.may_ask n store s asked next is known.0; fits = fits.0; question_named = keeps.question n store s asked next is known.0; reply_named = named }),
    );
    going = λ n store s t is known. (keeps.going n store s t is known.0, known.1);
    finding = λ n store s e is known. keeps.finding n store s e is known.0;
  }

  later : (calls : List Call) (from to : O) (store : Store) → GoesThrough step from calls to → AreReplies (count_at from) store → AreReplies (count_at to) store
  later calls from to store went named =
      AreReplies-more (count_at from) (count_at to) store
      (Grown-length (c.moment from).spoken.log.names (c.moment to).spoken.log.names (grown_through d found IsKnown keeps step c calls from to went)) named

  -- the last calls of a diagnosis that broke off
  broken : (from to : O) (store kept : Store) (turn : Turn D E) (end : AskEnd) (calls : List Call) → ((asked : Asked) (next : Reply → D) → turn ≡ asks asked next → QuestionIsNamed (count_at from) asked.question × MayAsk asked.question) → Broken d.left turn store end calls kept → GoesThrough step from calls to → AreReplies (count_at from) store →
      AreReplies (count_at to) kept
  broken from to store kept turn end calls questions (unasked is) went named = later [] from to store went named
  broken from to store kept turn end calls questions (unanswered asked next is) went named = later (asks_of asked (Err end) ∷ []) from to store went named
  broken from to store kept turn end calls questions (unkept asked next r is fits memory) went named = later (asks_of asked (Ok r) ∷ []) from to store went named
  broken from to store kept turn end calls questions (untold asked next r is fits) (mid, asks_it, rest) named =
      let here : AreReplies (count_at mid) store = later (asks_of asked (Ok r) ∷ []) from mid store (mid, asks_it, refl) named in
      let reply : ReplyIsNamed (count_at mid) r = ((c.calls from (asks_of asked (Ok r)) mid asks_it).acts.1 (questions asked next is).0).1 in
      let asked_it : QuestionIsNamed (count_at mid) asked.question =
      QuestionIsNamed-more (count_at from) (count_at mid) asked.question
      (Grown-length (c.moment from).spoken.log.names (c.moment mid).spoken.log.names (grown_through d found IsKnown keeps step c (asks_of asked (Ok r) ∷ []) from mid (mid, asks_it, refl))) (questions asked next is).0 in
      later (tells r (d.left (next r)) (Err end) ∷ []) mid to kept rest
      (with_pair-replies (count_at mid) store asked.question r here (record { asked = (questions asked next is).1; fits = fits.0; question_named = asked_it; reply_named = reply }))

  pub replies_kept : (p : Moment D O) (store : Store) (to : O) (result : Result E AskEnd) → MatchResult result (λ e. Reaches d step p store to e) (λ e. Breaks d step p store to e) → IsKnown (count_at p.oracle) p.store p.state →
      AreReplies (count_at p.oracle) p.store → AreReplies (count_at to) store
  replies_kept p store to (Ok e) r known named = (known_through d found IsKnownToo keeps_too step c r.replies p.store p.state p.oracle to _ r.whole r.fit r.calls (known, named)).known.1
  replies_kept p store to (Err end) b known named =
      let last = b.last in
      let x : Dialogue D E = record { exchanges = b.goes.exchanges; store = last.store; turn = next_turn d last.store last.state } in
      let whole : dialogue d (b.goes.replies ++ []) p.store p.state ≡ x =
      b.goes.rest [] ∙ ap (λ (es : List Exchange). record { exchanges = es; store = last.store; turn = next_turn d last.store last.state }) (append-nil b.goes.exchanges) in
      let at = known_through d found IsKnownToo keeps_too step c (b.goes.replies ++ []) p.store p.state p.oracle last.oracle x whole b.goes.fit b.goes.calls (known, named) in
      broken last.oracle to last.store store (next_turn d last.store last.state) end b.calls
      (λ asked next is. (
        asked-named d found IsKnownToo keeps_too (count_at last.oracle) last.store at.state asked next (at.is ∙ is) at.known,
        asked-may d found IsKnownToo keeps_too (count_at last.oracle) last.store at.state asked next (at.is ∙ is) at.known,
      )) b.broken b.through at.known.1
