-- Orders: what pairs say of which calls are below which, by numbers of calls.
use Rattle.std.specs.Prelude.{ℕ, ◌≡◌, ◌⊎◌, List, [], length, map, get_or}
use Rattle.apd_term.specs.Term.{Term, IsAmong}
use Rattle.apd_answers.specs.Store.{SomePairIn, TellsBelow}
use Rattle.apd_answers.specs.declared.question.Reply.{Reply}
use Rattle.apd_answers.specs.declared.question.Reply.TheVariants.{Yes, No}
use Rattle.apd_answers.specs.declared.store.Pair.{Pair}
use Rattle.apd_findings.specs.Keys.{HasNumber}
use Rattle.apd_findings.specs.Reaching.{AreEdges, AreReached, Reaches}
use Rattle.apd_marks.specs.declared.keys.KeyPart.{KeyPart}
use Rattle.apd_findings.specs.declared.orders.Orders.{Orders}

-- the keys of the calls that have numbers
abbrev pub keys_of : Orders → List (List KeyPart)
keys_of o = map (λ v. v.items) o.keys.keys

-- the pairs give this reply to whether the one call is below the other
abbrev pub IsSaid : List Pair → Reply → Term → Term → Type 0
IsSaid pairs said x y = SomePairIn (TellsBelow said x y) pairs

-- calls with these numbers, to which the pairs give this reply
pub record Says (pairs : List Pair) (said : Reply) (keys : List (List KeyPart)) (low high : ℕ) : Type 0 where
  pub callee : Term
  pub caller : Term
  pub is_said : IsSaid pairs said callee caller
  pub is_low : HasNumber keys callee low
  pub is_high : HasNumber keys caller high

-- the numbers of two calls, of which the list of the first has the second
pub record IsListed (keys : List (List KeyPart)) (lists : List (List ℕ)) (x y : Term) : Type 0 where
  pub low : ℕ
  pub high : ℕ
  pub is_low : HasNumber keys x low
  pub is_high : HasNumber keys y high
  pub among : IsAmong (get_or lists low []) high

-- the lists have those orders to which the pairs give this reply, and no other
pub record AreSaid (pairs : List Pair) (said : Reply) (keys : List (List KeyPart)) (lists : List (List ℕ)) : Type 0 where
  pub sound : (low high : ℕ) → IsAmong (get_or lists low []) high → Says pairs said keys low high
  pub whole : (x y : Term) → IsSaid pairs said x y → IsListed keys lists x y

-- each call that has a number has its lists
pub record HasLists (o : Orders) : Type 0 where
  pub above : length o.above.items ≡ length (keys_of o)
  pub denied : length o.denied.items ≡ length (keys_of o)

-- they are the orders that the pairs say, with some of what is reached by them
pub record AreOrders (pairs : List Pair) (o : Orders) : Type 0 where
  pub lists : HasLists o
  pub yes : AreSaid pairs Yes (keys_of o) o.above.items
  pub no : AreSaid pairs No (keys_of o) o.denied.items
  pub edges : AreEdges o.above.items o.fresh.items
  pub rows : AreReached o.above.items o.fresh.items o.reached

-- the call has this number, and what was said is kept
pub record IsNumbered (old new : Orders) (call : Term) (n : ℕ) : Type 0 where
  pub number : HasNumber (keys_of new) call n
  pub kept : (t : Term) (i : ℕ) → HasNumber (keys_of old) t i → HasNumber (keys_of new) t i
  pub lists : HasLists new
  pub above : (i : ℕ) → get_or new.above.items i [] ≡ get_or old.above.items i []
  pub denied : (i : ℕ) → get_or new.denied.items i [] ≡ get_or old.denied.items i []
  pub fresh : new.fresh ≡ old.fresh
  pub rows : new.reached ≡ old.reached

-- from the one number the other is reached, or one of those that are denied to it
abbrev pub IsReached : List (List ℕ) → List (List ℕ) → ℕ → ℕ → Type 0
IsReached above denied low high = Reaches above high low ⊎ ((n : ℕ) × IsAmong (get_or denied low []) n × Reaches above high n)
