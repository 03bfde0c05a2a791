-- What a printer prints of what it is shown.
use Rattle.std.proofs.Common.{◌≡◌, ℕ, List, refl, sym, Option, true, false, subst}
use Rattle.std.specs.Prelude.{Result, Ok, Err, IfOk, OnOk}
use Rattle.std.specs.declared.alloc.AllocError.{AllocError}
use Rattle.apd_term.specs.Term.{Term}
use Rattle.apd_io.specs.Outside.{Adds}
use Rattle.apd_console.specs.Print.{AddsFront}
use Rattle.apd_console.proofs.Printing.{Adds-self, front_self}
use Rattle.apd_ops.specs.Table.{Table}
use Rattle.apd_ports.specs.declared.event.Event.{Event}
use Rattle.apd_ports.specs.Filter.{Admission, is_admitted}
use Rattle.apd_ports.specs.declared.hook.HookFault.{HookFault}
use Rattle.apd_ports.specs.declared.hook.HookFault.TheVariants.{WriteFault, Memory}
use Rattle.apd_ports.specs.declared.hook.Shown.TheVariants.{Port, Answer}
use Rattle.apd_text.specs.Lines.{port_text, answer_text}
use Rattle.apd_query.specs.Printing.{PrintsLine, Prints, next_number}

-- a line's text, or the front of it
line_all : (x y : Option (List ℕ)) (line : Result (List ℕ) AllocError) (text : List ℕ) → IfOk line (λ t. t ≡ text) → PrintsLine x y line (Ok tt) → Adds x y text
line_all x y (Ok t) text is prints = subst (λ (b : List ℕ). Adds x y b) is prints
line_all x y (Err e) text is prints = absurd prints

line_front : (x y : Option (List ℕ)) (line : Result (List ℕ) AllocError) (text : List ℕ) (fault : HookFault) → IfOk line (λ t. t ≡ text) → PrintsLine x y line (Err fault) → AddsFront x y text
line_front x y (Ok t) text WriteFault is prints = subst (λ (b : List ℕ). AddsFront x y b) is prints
line_front x y (Ok t) text Memory is prints = absurd prints
line_front x y (Err e) text WriteFault is prints = absurd prints
line_front x y (Err e) text Memory is prints = subst (λ (z : Option (List ℕ)). AddsFront x z text) (sym prints) (front_self x text)

pub event_prints : (ops : Table) (names vars : List (List ℕ)) (admission : Admission) (x y : Option (List ℕ)) (count : ℕ) (e : Event) (line : Result (List ℕ) AllocError) (r : Result (Unit {0}) HookFault) →
    is_admitted admission e ≡ true → IfOk line (λ t. t ≡ port_text ops names e) → PrintsLine x y line r → Prints ops names vars admission x y count count (Port e) r
event_prints ops names vars admission x y count e line (Ok u) admitted is prints = (rw admitted (line_all x y line (port_text ops names e) is prints), refl)
event_prints ops names vars admission x y count e line (Err fault) admitted is prints = rw admitted (line_front x y line (port_text ops names e) fault is prints)

pub answer_fails : (ops : Table) (names vars : List (List ℕ)) (admission : Admission) (x y : Option (List ℕ)) (count number : ℕ) (a : Term) (line : Result (List ℕ) AllocError) (fault : HookFault) →
    number ≡ next_number count → IfOk line (λ t. t ≡ answer_text ops names vars number a) → PrintsLine x y line (Err fault) → Prints ops names vars admission x y count count (Answer a) (Err fault)
answer_fails ops names vars admission x y count number a line fault counts is prints =
    subst (λ (n : ℕ). AddsFront x y (answer_text ops names vars n a)) counts (line_front x y line (answer_text ops names vars number a) fault is prints)

-- a port that isn't admitted, where none is
pub prints_nothing : (ops : Table) (names vars : List (List ℕ)) (admission : Admission) (x : Option (List ℕ)) (count : ℕ) (e : Event) → is_admitted admission e ≡ false → Prints ops names vars admission x x count count (Port e) (Ok tt)
prints_nothing ops names vars admission x count e passed_over = (rw passed_over (Adds-self x), refl)

-- what holds is so also where it is asked for on success alone
pub on_either : {P : Type 0} (r : Result (Unit {0}) HookFault) → P → OnOk r P
on_either (Ok u) holds = holds
on_either (Err fault) holds = tt
