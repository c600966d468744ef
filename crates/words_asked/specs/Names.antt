-- The places of the files among a program's arguments. Definitions only.
use Rattle.std.specs.Prelude.{ℕ, Bool, true, false, cond, ◌&&◌, eqb}
use Rattle.words_asked.specs.declared.Names.{Names}

abbrev pub names_of : ℕ → ℕ → ℕ → Bool → Names
names_of first second files good = record { first = first; second = second; files = files; good = good }

-- The state before the first argument.
abbrev pub no_names : Names
no_names = names_of 0 0 0 true

-- The file at place i is the first or the second. A further one is only counted.
abbrev pub with_file : Names → ℕ → Names
with_file n i =
    cond (eqb n.files 0) (names_of i n.second 1 n.good)
    (cond (eqb n.files 1) (names_of n.first i 2 n.good) (names_of n.first n.second 3 n.good))

-- The state after an argument that cannot be used.
abbrev pub refused_names : Names → Names
refused_names n = names_of n.first n.second n.files false

-- Exactly two files must have been named.
abbrev pub of_two : Names → Names
of_two n = names_of n.first n.second n.files (n.good && eqb n.files 2)
