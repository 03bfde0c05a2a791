-- A search that hands an exit where there is no frame: it comes back to the newest choice.
use Rattle.std.proofs.Common.{◌≡◌, ◌∙◌, ℕ, ◌-◌, List, [], ◌∷◌, ◌++◌, length, refl, ap, Option, Some, None}
use Rattle.apd_term.specs.declared.tuple.Tuple.{Tuple}
use Rattle.apd_trace.specs.Trace.{Out, nothing}
use Rattle.apd_trace.specs.declared.frame.Frame.{Frame}
use Rattle.apd_trace.specs.declared.item.Item.{Item}
use Rattle.apd_frames.specs.Kept.{Kept, newest_of}
use Rattle.apd_engine.specs.Given.{Holding, TellsSome}
use Rattle.apd_engine.specs.Search.{Gives, GivesBy, GivesOrEnds, Standing, back, going, in_mode, rest}
use Rattle.apd_engine.specs.declared.given.Given.{Given}
use Rattle.apd_engine.specs.declared.given.Unread.{Unread}
use Rattle.apd_engine.specs.declared.search.Choice.{Choice}
use Rattle.apd_engine.specs.declared.search.Mode.TheVariants.{Hand, Back}
use Rattle.apd_engine.proofs.Telling.{tells_weaker}

hand_nothing : (P : List Tuple) (F : List Frame) → newest_of F ≡ None → (k e n m : ℕ) → going P k (Hand e) F n m ≡ nothing n m
hand_nothing P [] none k e n m = refl
hand_nothing P (f ∷ F) none k e n m = cc

module _ (P : List Tuple) (F : Kept) (none : newest_of F.current ≡ None) (e : ℕ) (cs : List Choice) (n m : ℕ) where
  rest_nothing : (K : ℕ) → rest P K (Hand e) F cs n m ≡ rest P K Back F cs n m
  rest_nothing K = ap (λ (o : Out). o.items ++ back P K cs F.saved o.boxes o.points) (hand_nothing P F.current none (K - length cs) e n m)

  gives_nothing : (i : Item) (new : Standing) → Gives P Back F cs n m i new → Gives P (Hand e) F cs n m i new
  gives_nothing i new gives =
      record {
        items = λ K within. rest_nothing K ∙ gives.items K within;
        height = gives.height;
        boxes_made = gives.boxes_made;
        points_made = gives.points_made;
        pace = gives.pace;
        goes = gives.goes;
        waits = gives.waits;
      }

pub handed_none : (P : List Tuple) (kept : Holding) (unread : Unread) (s new : Standing) (e : ℕ) (o : Option Given) → newest_of s.frames.current ≡ None → TellsSome kept unread o (GivesOrEnds P (in_mode Back s) new) → TellsSome kept unread o (GivesOrEnds P (in_mode (Hand e) s) new)
handed_none P kept unread s new e None none h = λ K. rest_nothing P s.frames none e s.stack s.boxes s.points K ∙ h K
handed_none P kept unread s new e (Some given) none h =
    tells_weaker kept unread given (GivesBy P (in_mode Back s) new) (GivesBy P (in_mode (Hand e) s) new) (λ i gives. gives_nothing P s.frames none e s.stack s.boxes s.points i new gives) h
