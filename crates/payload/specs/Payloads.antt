-- The payload of a node as the code holds it, with its text left in the image, and what it stands for. Definitions only.
use Rattle.std.specs.Prelude.{ℕ, ◌+◌, ◌-◌, ◌≤◌, min, List, [], ◌∷◌, length, get_or, take, drop}
use Rattle.wire.specs.Bytes.{be8, be16, be32, be64, reach}
use Rattle.ast.specs.Node.{kind_at}
use Rattle.ast.specs.Tree as ast
use Rattle.ast.specs.Tree.{Name, p_none, p_float, p_hash, p_math, p_name, p_query}
use Rattle.payload.specs.declared.NameRef.{NameRef}
use Rattle.payload.specs.declared.Payload.{Payload}
use Rattle.payload.specs.declared.Payload.TheVariants as P

-- the name of the node at p; its text is cut at the image's end
unfoldable pub name_ref_at : List ℕ → ℕ → NameRef
name_ref_at s p = record { hash = be64 s p 14; at = reach s p 23; len = min (be8 s p 22) (length s - reach s p 23) }

-- what the payload is under each kind
abbrev pub payload_refs : List ℕ → ℕ → List Payload
payload_refs s p =
    P.None ∷ P.Float (be32 s p 14) ∷ P.Hash (be64 s p 14)
    ∷ P.Context (name_ref_at s p) ∷ P.Entity (name_ref_at s p) ∷ P.Temp (name_ref_at s p) ∷ P.Member (name_ref_at s p)
    ∷ P.ArrayVariable (name_ref_at s p) ∷ P.Geometry (name_ref_at s p) ∷ P.Material (name_ref_at s p) ∷ P.Texture (name_ref_at s p)
    ∷ P.Query (record { index = be16 s p 14; impl_idx = be8 s p 16 }) ∷ P.HostMath (be16 s p 14) ∷ []

-- the payload of the node at p; an unknown kind reads as None
unfoldable pub payload_ref_at : List ℕ → ℕ → Payload
payload_ref_at s p = get_or (payload_refs s p) (kind_at s p) P.None

-- a name with its text, which lies in the image
abbrev pub named : List ℕ → NameRef → Name
named s n = record { hash = n.hash; text = take n.len (drop n.at s) }

-- the payload of the tree that the code's payload stands for
abbrev pub meant : List ℕ → Payload → ast.Payload
meant s P.None = p_none
meant s (P.Float b) = p_float b
meant s (P.Hash h) = p_hash h
meant s (P.Context n) = p_name 3 (named s n)
meant s (P.Entity n) = p_name 4 (named s n)
meant s (P.Temp n) = p_name 5 (named s n)
meant s (P.Member n) = p_name 6 (named s n)
meant s (P.ArrayVariable n) = p_name 7 (named s n)
meant s (P.Geometry n) = p_name 8 (named s n)
meant s (P.Material n) = p_name 9 (named s n)
meant s (P.Texture n) = p_name 10 (named s n)
meant s (P.Query q) = p_query q.index q.impl_idx
meant s (P.HostMath f) = p_math f

-- the text of a name lies in the image
abbrev pub Inside : List ℕ → NameRef → Type 0
Inside s n = n.at + n.len ≤ length s

-- so does the text of a payload, if it is a name
abbrev pub TextInside : List ℕ → Payload → Type 0
TextInside s P.None = Unit {0}
TextInside s (P.Float b) = Unit {0}
TextInside s (P.Hash h) = Unit {0}
TextInside s (P.Context n) = Inside s n
TextInside s (P.Entity n) = Inside s n
TextInside s (P.Temp n) = Inside s n
TextInside s (P.Member n) = Inside s n
TextInside s (P.ArrayVariable n) = Inside s n
TextInside s (P.Geometry n) = Inside s n
TextInside s (P.Material n) = Inside s n
TextInside s (P.Texture n) = Inside s n
TextInside s (P.Query q) = Unit {0}
TextInside s (P.HostMath f) = Unit {0}
