-- Counts of 16 bits, and how many entries are in use where none is. Definitions only.
use Rattle.std.specs.Prelude.{ℕ, ◌+◌, min}
use Rattle.workspace.specs.declared.counts.Pools.{Pools}
use Rattle.workspace.specs.declared.counts.Listed.{Listed}

-- up to what 16 bits hold
abbrev pub sum : ℕ → ℕ → ℕ
sum a b = min (a + b) 65535

abbrev pub one_more : ℕ → ℕ
one_more n = sum n 1

abbrev pub no_pools : Pools
no_pools = record { consts = 0; posts = 0; hashes = 0; names = 0; temps = 0; members = 0 }

abbrev pub none_listed : Listed
none_listed = record { stores = 0; paths = 0; calls = 0; arguments = 0 }
