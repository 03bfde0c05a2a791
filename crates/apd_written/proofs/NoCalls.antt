-- What a line says tells that it isn't one of a call.
use Rattle.std.proofs.Common.{◌≡◌, ℕ, Bool, true, false, List, [], Option, None, Some, refl, sym, subst}
use Rattle.std.specs.Prelude.{⊤}
use Rattle.std.specs.Bool.{then_some}
use Rattle.std.specs.Option.{option_and_then, option_map, option_or}
use Rattle.apd_ops.specs.Table.{Table}
use Rattle.apd_read.specs.Reader.{Reader}
use Rattle.apd_term.specs.Term.{Term}
use Rattle.apd_claims.specs.Claims.{call_between, call_entry, call_in, claim_of, is_text, may_end, or_garbled, written}
use Rattle.apd_claims.specs.Forms.{form_in, with_newline}
use Rattle.apd_claims.specs.Parting.{called_by, called_in}
use Rattle.apd_parts.specs.Parts.{Boxed, boxed_in, boxed_where, if_some}
use Rattle.apd_claims.specs.Reading.{term_in}
use Rattle.apd_claims.specs.Saying.{claim_at, claim_by}
use Rattle.apd_parts.specs.declared.boxes.Quote.TheVariants.{Outside}
use Rattle.apd_claims.specs.declared.claim.Claim.{Claim}
use Rattle.apd_claims.specs.declared.claim.Claim.TheVariants.{Runs, Ends, Tells, Asks, Replies, Finds, Descends, Nothing, Garbled}
use Rattle.apd_claims.specs.declared.form.Calling.{Calling}
use Rattle.apd_claims.specs.declared.form.LineForm.{LineForm}
use Rattle.apd_claims.specs.declared.form.LineForm.TheVariants.{Query, End, Symptom, Framed, Call, Candidates, Candidate, Descent, Other, Unread}

-- neither a finding nor garbled
abbrev pub IsNoCall : Claim → Type 0
IsNoCall (Runs q) = ⊤
IsNoCall (Ends ran) = ⊤
IsNoCall (Tells question reply) = ⊤
IsNoCall (Asks asked) = ⊤
IsNoCall (Replies reply) = ⊤
IsNoCall (Finds finding line) = ⊥
IsNoCall (Descends calls) = ⊤
IsNoCall Nothing = ⊤
IsNoCall Garbled = ⊥

abbrev IsCallIfSome : Option Claim → Type 0
IsCallIfSome None = ⊤
IsCallIfSome (Some c) = IsNoCall c → ⊥

-- the first of two, or the second
either-call : (x y : Option Claim) → IsCallIfSome x → IsCallIfSome y → IsCallIfSome (option_or x y)
either-call None y h k = k
either-call (Some c) y h k = h

garbled-call : (o : Option Claim) → IsCallIfSome o → IsNoCall (or_garbled o) → ⊥
garbled-call None h n = n
garbled-call (Some c) h n = h n

module _ {names : List (List ℕ)} (reader : Reader names) (ops : Table) (whole : List ℕ) (c : Calling) where
  written-call : (b : ℕ) (q p : Option Term) → IsCallIfSome (option_and_then (written ops names whole) (if_some q (λ callee. option_map (call_entry c b callee) p) None))
  written-call b None p = tt
  written-call b (Some q) None = tt
  written-call b (Some q) (Some p) = by (is_text ops names whole (call_entry c b q p))
    where
      by : (t : Bool) → IsCallIfSome (then_some t (claim_of (call_entry c b q p)))
      by true = λ n. n
      by false = tt

  between-call : (o : Option Boxed) → IsCallIfSome (option_and_then (call_between reader ops whole c) o)
  between-call None = tt
  between-call (Some p) = written-call p.led.number (term_in reader ops p.front) (term_in reader ops p.led.rest)

  in-call : (text : List ℕ) → IsCallIfSome (call_in reader ops whole c text)
  in-call text =
      either-call (option_and_then (call_between reader ops whole c) (boxed_in Outside text)) (option_and_then (call_between reader ops whole c) (boxed_where (may_end reader ops) Outside [] text))
      (between-call (boxed_in Outside text)) (between-call (boxed_where (may_end reader ops) Outside [] text))

module _ {names : List (List ℕ)} (reader : Reader names) (ops : Table) (in_group : Bool) (line : List ℕ) (lines : List (List ℕ)) where
  by-form : (f : LineForm) → IsNoCall (claim_by reader ops in_group line lines f) → called_by line f ≡ None
  by-form (Call c text) n = absurd (garbled-call (call_in reader ops (with_newline line) c text) (in-call reader ops (with_newline line) c text) n)
  by-form (Query goals) n = refl
  by-form (End ran) n = refl
  by-form (Symptom is_true text) n = refl
  by-form (Framed frame text) n = refl
  by-form Candidates n = refl
  by-form Candidate n = refl
  by-form (Descent calls) n = refl
  by-form Other n = refl
  by-form Unread n = refl

  pub no-call : (c : Claim) → IsNoCall c → claim_at reader ops in_group line lines ≡ c → called_in line ≡ None
  no-call c n e = by-form (form_in line) (subst IsNoCall (sym e) n)
