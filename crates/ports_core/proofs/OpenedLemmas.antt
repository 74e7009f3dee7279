-- The open connections after a change of one of them.
use Rattle.std.proofs.Common.{◌≡◌, ◌≢◌, ℕ, true, false, List, Option, Some, None, sym, ap, subst, ◌∙◌, arith}
use Rattle.std.specs.Prelude.{option_and_then}
use Rattle.std.specs.Ordering.{nat_cmp, is_eq}
use Rattle.std.proofs.lemmas.Bool.Decides.{nat_tests}
use Rattle.ports_core.specs.declared.connection.Connection.{Connection}
use Rattle.ports_core.specs.declared.event.Event.{Event}
use Rattle.ports_core.specs.declared.event.Told.{Told}
use Rattle.ports_core.specs.declared.event.Tell.{Tell}
use Rattle.ports_core.specs.Slices.{Queue}
use Rattle.ports_core.specs.Connections.{hears, kept, closing_number}
use Rattle.ports_core.specs.Intake.{Taken, TakesNext, Joins}
use Rattle.ports_core.specs.Opened.{connection_in, book_in}
use Rattle.ports_core.specs.Books.{HearsOn}

-- another number has another place in the order
pub is_eq-nat_cmp_other : (c d : ℕ) → d ≢ c → is_eq (nat_cmp c d) ≡ false
is_eq-nat_cmp_other c d ne = grind (arith, nat_tests)

pub is_eq-nat_cmp_same : (c : ℕ) → is_eq (nat_cmp c c) ≡ true
is_eq-nat_cmp_same c = grind (arith, nat_tests)

-- what is taken off a connection after an event, which then closes if it is done
pub hears_on : (keys : List (List ℕ)) (event : Event) (c : ℕ) (told : Told) (old mid new : List (ℕ × Connection))
    (queues queues_after : List Queue) (reply : Option Tell) (connection heard after : Connection)
    → connection_in c old ≡ Some connection → heard ≡ hears event connection → ((taken : Taken) × TakesNext keys c taken reply heard after
    × Joins keys c taken queues queues_after)
    → connection_in c mid ≡ Some after → ((d : ℕ) → d ≢ c → connection_in d mid ≡ connection_in d old)
    → told.reply ≡ reply → told.refused ≡ None → told.closed ≡ option_and_then (closing_number c) (connection_in c mid)
    → connection_in c new ≡ option_and_then kept (connection_in c mid) → ((d : ℕ) → d ≢ c → connection_in d new ≡ connection_in d mid)
    → (taken : Taken) × HearsOn keys event c told taken (book_in old) (book_in new) × Joins keys c taken queues queues_after
hears_on keys event c told old mid new queues queues_after reply connection heard after was_open heard_is takes mid_is mid_others reply_is
    refused closed connection_is others = (
      takes.0,
      record {
        connection = connection;
        was_open = was_open;
        after = after;
        takes = subst (λ r. TakesNext keys c takes.0 r (hears event connection) after) (sym reply_is)
            (subst (λ h. TakesNext keys c takes.0 reply h after) heard_is takes.1);
        refused = refused;
        closed = closed ∙ ap (option_and_then (closing_number c)) mid_is;
        connection_is = connection_is ∙ ap (option_and_then kept) mid_is;
        others = λ d ne. others d ne ∙ mid_others d ne;
      },
      takes.2,
    )
