-- The body is a front of five sections, and the other four with the closing fields.
use mathlib.Core.Path.{◌≡◌}
use mathlib.Core.List.{append_assoc}
use Prim.Native.Nat.{ℕ}
use Rattle.std.specs.Prelude.{List, ◌++◌}
use Rattle.card.specs.Written.{joined}
use Rattle.card.specs.declared.Sections.{Sections}
use Rattle.card.specs.Image.{code_section, consts_section, posts_section, hashes_section, names_section, temps_section, members_section}
use Rattle.card.specs.Image.{stores_section, calls_section, closing_bytes, sections_of, body_of}

unfoldable pub front_of : List ℕ → List ℕ → Sections → List ℕ
front_of tree ws c =
    code_section ws c.code c.finished
    ++ consts_section ws c.pools.consts
    ++ posts_section ws c.pools.posts
    ++ hashes_section ws c.pools.hashes
    ++ names_section tree ws c.pools.names

unfoldable pub back_of : List ℕ → List ℕ → Sections → List ℕ
back_of tree ws c =
    temps_section ws c.pools.temps
    ++ members_section tree ws c.pools.members
    ++ stores_section ws c.listed.stores
    ++ calls_section ws c.code c.listed.calls
    ++ closing_bytes c

pub two_parts : (tree ws : List ℕ) (c : Sections) → body_of tree ws c ≡ front_of tree ws c ++ back_of tree ws c
unfolding body_of joined sections_of front_of back_of
two_parts tree ws c = simp append_assoc
