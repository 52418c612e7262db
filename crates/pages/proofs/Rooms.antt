-- The first page with room, and the start, image by image. Assumes nothing.
use mathlib.Core.Path.{◌≡◌, refl}
use native.Mathlib.Omega.{arith}
use native.Mathlib.Numerals.{add-one}
use Rattle.std.proofs.Common.{ℕ, suc, ◌+◌, ◌-◌, ◌<◌, ◌≤◌, List, length, take, drop, get_or}
use Rattle.std.proofs.Math.Seq.{slice-cons, slice_empty}
use Rattle.std.proofs.lemmas.Bool.{lt-leb}
use Rattle.pages.specs.declared.order.Image.{Image}
use Rattle.pages.specs.declared.state.State.{State}
use Rattle.pages.specs.State.{put, first_room, started}

-- no room here
pub goes_on : (free : List ℕ) (s p n : ℕ) → p < n → get_or free p 0 < s → first_room free s p (n - p) ≡ first_room free s (p + 1) (n - (p + 1))
unfolding first_room
goes_on free s p n l r =
    let e : n - p ≡ suc (n - (p + 1)) = omega arith in
    rw (e, add-one p) (simp (lt-leb s (get_or free p 0) r) refl)

-- one image more
pub one_more : (o : List Image) (i n : ℕ) (st new : State) (a d : Image) (p : ℕ) → i < n → n ≤ length o
    → a ≡ get_or o i d → p ≡ first_room st.free a.size 0 st.opened → new ≡ put a p st → started (drop i (take n o)) st ≡ started (drop (i + 1) (take n o)) new
unfolding started
one_more o i n st new a d p l f is at goes = rw (slice-cons i n o d l f, add-one i, goes, at, is)

pub none_left : (o : List Image) (n : ℕ) (st : State) → started (drop n (take n o)) st ≡ st
unfolding started
none_left o n st = rw (slice_empty n o)
