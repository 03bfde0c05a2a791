-- What is told of a box in one number.
use Rattle.std.specs.Prelude.{ℕ, ◌+◌, ◌/◌, ◌%◌, ◌==◌, Bool, false}
use Rattle.apd_ports.specs.declared.event.Port.{Port}
use Rattle.apd_ports.specs.declared.event.Port.TheVariants.{Call}
use Rattle.apd_boxes.specs.Ports.{completes, port_of_number}

-- how many symbols the goal of a box has, or 0 where that isn't known; whether its call is kept whole elsewhere; whether
-- the goal is one of the program's; how many exits it has, where 2 stands for several; whether it was searched to its end;
-- and the port that it passed last
pub record Facts : Type 0 where
  pub size : ℕ
  pub is_whole : Bool
  pub is_user : Bool
  pub exits : ℕ
  pub complete : Bool
  pub last : Port

-- a number's least bit
abbrev pub is_set : ℕ → Bool
is_set n = n % 2 == 1

abbrev pub facts_in : ℕ → Facts
facts_in n =
    record {
      size = n / 128;
      is_whole = is_set (n / 64);
      is_user = is_set (n / 32);
      exits = n / 8 % 4;
      complete = is_set (n / 4);
      last = port_of_number (n % 4);
    }

-- of a box that was just called
abbrev pub called_facts : ℕ → Bool → Bool → Facts
called_facts size is_user is_whole =
    record {
      size = size;
      is_whole = is_whole;
      is_user = is_user;
      exits = 0;
      complete = false;
      last = Call;
    }

-- of a box that passes a port
abbrev pub passed_facts : Port → Facts → Facts
passed_facts port f =
    record {
      size = f.size;
      is_whole = f.is_whole;
      is_user = f.is_user;
      exits = f.exits;
      complete = completes port f.complete;
      last = port;
    }

-- of a box with one more exit
abbrev pub one_more : Facts → Facts
one_more f =
    record {
      size = f.size;
      is_whole = f.is_whole;
      is_user = f.is_user;
      exits = f.exits + 1;
      complete = f.complete;
      last = f.last;
    }
