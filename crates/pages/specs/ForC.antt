-- The numbers of what C is answered. Definitions only.
use Rattle.std.specs.Prelude.{ℕ, cond, List, length, take, eqb}
use Rattle.pages.specs.declared.c.PackingForC.{PackingForC}
use Rattle.pages.specs.Answer.{Answer}

-- how many pages are told: an accepted list has the pages of its images, and a refused one has none
abbrev pub listed : List ℕ → PackingForC → ℕ
listed xs p = cond (eqb p.refusal 0) (length xs) 0

unfoldable pub told : List ℕ → PackingForC → Answer
told xs p = record { number = p.refusal; pages = take (listed xs p) p.pages; opened = p.opened; steps = p.steps; above = p.above }
