-- Each region of the layout begins where the one before it ends, and the last ends in the workspace. Assumes nothing.
use mathlib.Core.Path.{◌≡◌, refl}
use mathlib.Core.List.{List, [], ◌∷◌}
use Prim.Native.Nat.{ℕ, ◌+◌, ◌*◌, ◌≤◌}
use native.Mathlib.Omega.{arith}
use Rattle.workspace.specs.Layout as L

-- the words of an entry times its room, behind each place
abbrev ends : List ℕ
ends =
    (L.OPEN + 2 * L.CODE_ROOM)
    ∷ (L.FINISHED + 2 * L.CODE_ROOM)
    ∷ (L.CONSTS + 2 * L.CONSTS_ROOM)
    ∷ (L.POSTS + 2 * L.POSTS_ROOM)
    ∷ (L.HASHES + 2 * L.HASHES_ROOM)
    ∷ (L.NAMES + 3 * L.NAMES_ROOM)
    ∷ (L.TEMPS + 1 * L.TEMPS_ROOM)
    ∷ (L.MEMBERS + 6 * L.MEMBERS_ROOM)
    ∷ (L.STORES + 4 * L.STORES_ROOM)
    ∷ (L.PATHS + 2 * L.PATHS_ROOM)
    ∷ (L.CALLS + 4 * L.CALLS_ROOM)
    ∷ []

one_behind_the_other : ends ≡ (L.FINISHED ∷ L.CONSTS ∷ L.POSTS ∷ L.HASHES ∷ L.NAMES ∷ L.TEMPS ∷ L.MEMBERS ∷ L.STORES ∷ L.PATHS ∷ L.CALLS ∷ L.ARGUMENTS ∷ [])
one_behind_the_other = refl

inside : L.ARGUMENTS + 1 * L.ARGUMENTS_ROOM ≤ L.WORDS
inside = omega arith
