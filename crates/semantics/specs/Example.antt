-- What a worked example of the walk and the step machine is: the bytes of a tree image, those of its program image, and the run on some lists of
-- outcomes. The program images are as the genuine build gives them, the runs as 01 tells them (01, Walk and step machine). In the bytes a `_` stands
-- between nodes, between instructions and between sections. Definitions only.
use Rattle.std.specs.Prelude.{Bool, List, ℕ}
use Rattle.numeric.specs.Post.{Post}
use Rattle.numeric.specs.PostOp.{post}
use Rattle.program.specs.Counts.{Counts}
use Rattle.semantics.specs.Run.{Action, Event, event, Ending, Behaviour}

-- a list of outcomes, and what a run on it shows
pub record Trial : Type 0 where
  pub outcomes : List Bool
  pub shows : Behaviour

-- the bytes of a tree image, of its program image, and the runs
pub record Example : Type 0 where
  pub tree : List ℕ
  pub card : List ℕ
  pub trials : List Trial

abbrev pub example : List ℕ → List ℕ → List Trial → Example
example tree card trials = record { tree = tree; card = card; trials = trials }

abbrev pub trial : List Bool → Ending → ℕ → List Event → Trial
trial outcomes ending used log = record { outcomes = outcomes; shows = record { log = log; ending = ending; used = used } }

-- open operands, loops and handlers
abbrev pub depths : ℕ → ℕ → ℕ → Counts
depths stack loops handlers = record { operands = stack; loops = loops; handlers = handlers }

-- an event with what is open
abbrev pub entry : Action → ℕ → ℕ → ℕ → Event
entry a o l h = event a (depths o l h)

-- the hashes of the names a, b, c, e, t, x and y
abbrev pub hash_a : ℕ
hash_a = 0xaf63bd4c8601b7be

abbrev pub hash_b : ℕ
hash_b = 0xaf63bd4c8601b7bd

abbrev pub hash_c : ℕ
hash_c = 0xaf63bd4c8601b7bc

abbrev pub hash_e : ℕ
hash_e = 0xaf63bd4c8601b7ba

abbrev pub hash_t : ℕ
hash_t = 0xaf63bd4c8601b7ab

abbrev pub hash_x : ℕ
hash_x = 0xaf63bd4c8601b7a7

abbrev pub hash_y : ℕ
hash_y = 0xaf63bd4c8601b7a6

-- posts by scale and offset: of 2.0 and 1.0, of 3.0 and 2.0, and so on
abbrev pub p21 : Post
p21 = post 0x40000000 0x3f800000

abbrev pub p32 : Post
p32 = post 0x40400000 0x40000000

abbrev pub p43 : Post
p43 = post 0x40800000 0x40400000

abbrev pub p54 : Post
p54 = post 0x40a00000 0x40800000

abbrev pub p65 : Post
p65 = post 0x40c00000 0x40a00000
