-- No point of a function stands twice among all its points: their indexes rise along them.
use Rattle.std.proofs.Common.{◌≡◌, ◌∙◌, ◌⊎◌, inl, inr, ℕ, zero, suc, ◌+◌, ◌*◌, ◌<◌, ◌≤◌, Bool, true, false, cond, List, [], ◌∷◌, ◌++◌, refl, sym, ap, subst, arith, length, append_assoc, Option, None, Some}
use Rattle.std.specs.Prelude.{flat_map, slice_get, slice_index, map, not, nat_eq}
use Rattle.std.proofs.lemmas.Bool.{eq-eqb}
use Rattle.std.specs.List.{position_or_len}
use Rattle.meaning.specs.Live.{Among, here, there}
use Rattle.mir_func.specs.declared.func.Instr.{Instr}
use Rattle.mir_func.specs.declared.func.Block.{Block}
use Rattle.mir_meaning.specs.Points.{Point, Start, Entry, Exit, block_points}
use Rattle.live_lanes.specs.declared.table.Table.{Table}
use Rattle.live_lanes.specs.Table.{Numbers, entry_rank, exit_rank}
use Rattle.mir_meaning.specs.Paths.{has}
use Rattle.live_lanes.specs.Ordered.{ids_of, place_of, AreRising}
use Rattle.live_lanes.specs.Touching.{FindsInstrs}
use Rattle.slot_index.specs.Order.{number_of}
use Rattle.split_choose.specs.Bundles.{ArePlaced}
use Rattle.split_choose.specs.Offers.{same_point}
use Rattle.split_choose.specs.Seen.{home_of, rank_of}
use Rattle.split_choose.proofs.Covers.{among-cases}
use Rattle.split_choose.proofs.Ranked.{same-self, same-is, AreRanked, ranked-above, Lacks, ranked-from}

-- none stands twice
abbrev pub Apart : List Point → Type 0
Apart [] = Unit {0}
Apart (p ∷ ps) = Lacks p ps × Apart ps

among-parts : {X : Type 0} (x : X) (xs ys : List X) → Among x (xs ++ ys) → Among x xs ⊎ Among x ys
among-parts x [] ys m = inr m
among-parts {X} x (z ∷ xs) ys m = go (among-cases x z (xs ++ ys) m) (among-parts x xs ys)
  where
    go : (x ≡ z) ⊎ Among x (xs ++ ys) → (Among x (xs ++ ys) → Among x xs ⊎ Among x ys) → Among x (z ∷ xs) ⊎ Among x ys
    go (inl e) ih = let P : X → Type 0 = λ w. Among x (w ∷ xs) in inl (subst P e here)
    go (inr k) ih = elim (ih k) [ inl a ↦ inl (there a) | inr b ↦ inr b ]

lacks-parts : (p : Point) (ps qs : List Point) → Lacks p ps → Lacks p qs → Lacks p (ps ++ qs)
lacks-parts p ps qs a b m = elim (among-parts p ps qs m) [ inl k ↦ a k | inr k ↦ b k ]

apart-append : (ps qs : List Point) → Apart ps → Apart qs → ((x : Point) → Among x ps → Lacks x qs) → Apart (ps ++ qs)
apart-append [] qs a b h = b
apart-append (p ∷ ps) qs a b h = (lacks-parts p ps qs a.0 (h p here), apart-append ps qs a.1 b (λ x m. h x (there m)))

ranked-apart : (rank : Point → ℕ) (n : ℕ) (ps : List Point) → AreRanked rank n ps → Apart ps
ranked-apart rank n [] r = tt
ranked-apart rank n (p ∷ ps) r = ((λ m. (let a = ranked-above rank (suc (rank p)) ps p r.1 m in absurd (omega (arith, a)))), ranked-apart rank (suc (rank p)) ps r.1)

-- indexes

differs : (p q : Point) (qs : List Point) → Lacks p (q ∷ qs) → same_point p q ≡ false
differs p q qs n = go (same_point p q) refl
  where
    go : (b : Bool) → same_point p q ≡ b → same_point p q ≡ false
    go true e = let P : Point → Type 0 = λ x. Among p (x ∷ qs) in absurd (n (subst P (same-is p q e) here))
    go false e = e

index-of : (p : Point) (before after : List Point) → Lacks p before → position_or_len (same_point p) (before ++ (p ∷ after)) ≡ length before
index-of p [] after h = ap (λ b. cond (not b) (1 + position_or_len (same_point p) after) 0) (same-self p)
index-of p (x ∷ before) after h =
    ap (λ b. cond (not b) (1 + position_or_len (same_point p) (before ++ (p ∷ after))) 0) (differs p x before h)
    ∙ (let e = index-of p before after (λ m. h (there m)) in omega (arith, e))

apart-before : (p : Point) (before after : List Point) → Apart (before ++ (p ∷ after)) → Lacks p before
apart-before p [] after a = λ m. elim m [ ]
apart-before p (x ∷ before) after a = λ m. go (among-cases p x before m) (apart-before p before after a.1)
  where
    mid : (xs : List Point) → Among p (xs ++ (p ∷ after))
    mid [] = here
    mid (y ∷ xs) = there (mid xs)

    go : (p ≡ x) ⊎ Among p before → Lacks p before → ⊥
    go (inl e) ih = let P : Point → Type 0 = λ y. Among y (before ++ (p ∷ after)) in a.0 (subst P e (mid before))
    go (inr k) ih = ih k

pub indexes-rise : (all before ps : List Point) → all ≡ before ++ ps → Apart all → AreRanked (λ p. position_or_len (same_point p) all) (length before) ps
indexes-rise all before [] e a = tt
indexes-rise all before (p ∷ ps) e a =
    let at : position_or_len (same_point p) all ≡ length before = ap (position_or_len (same_point p)) e ∙ index-of p before ps (apart-before p before ps (subst Apart e a)) in
    let longer : length (before ++ p ∷ []) ≡ suc (length before) = one-longer before in
    let R : ℕ → Type 0 = λ n. AreRanked (λ q. position_or_len (same_point q) all) n ps in
    (omega (arith, at), subst R (longer ∙ ap suc (sym at)) (indexes-rise all (before ++ p ∷ []) ps (e ∙ sym (append_assoc before (p ∷ []) ps)) a))
  where
    one-longer : (xs : List Point) → length (xs ++ p ∷ []) ≡ suc (length xs)
    one-longer [] = refl
    one-longer (x ∷ xs) = ap suc (one-longer xs)

-- points of blocks

abbrev pub instr_points : List Instr → List Point
instr_points is = flat_map (λ (i : Instr). Entry i.id ∷ Exit i.id ∷ []) is

instrs-rise : (slots : Numbers) (n : ℕ) (is : List Instr) → AreRising slots n (ids_of is) → AreRanked (rank_of slots) (n * 2 + 2) (instr_points is)
instrs-rise slots n [] r = tt
instrs-rise slots n (i ∷ is) r =
    let a : n < number_of slots i.id = r.0 in
    (omega arith, (omega arith, (let e : number_of slots i.id * 2 + 2 ≡ suc (number_of slots i.id * 2 + 1) = omega arith in let R : ℕ → Type 0 = λ k. AreRanked (rank_of slots) k (instr_points is) in subst R e (instrs-rise slots (number_of slots i.id) is r.2))))

block-apart : (slots : Numbers) (b : Block) → AreRising slots 0 (ids_of b.instrs) → Apart (block_points b)
block-apart slots b r = ranked-apart (rank_of slots) 0 (block_points b) (omega arith, ranked-from (rank_of slots) 2 1 (instr_points b.instrs) (omega arith) (instrs-rise slots 0 b.instrs r))

module _ (x : Table) (bs : List Block) (finds : FindsInstrs x bs) (placed : ArePlaced bs) where
  has-first : (id : ℕ) (ids : List ℕ) → has id (id ∷ ids) ≡ true
  has-first id ids = ap (λ b. cond b true (has id ids)) (eq-eqb id id refl)

  has-later : (id other : ℕ) (ids : List ℕ) → has id ids ≡ true → has id (other ∷ ids) ≡ true
  has-later id other ids h = go (nat_eq other id) refl
    where
      go : (b : Bool) → nat_eq other id ≡ b → has id (other ∷ ids) ≡ true
      go true e = ap (λ b. cond b true (has id ids)) e
      go false e = ap (λ b. cond b true (has id ids)) e ∙ h

  home-in : (k : ℕ) (b : Block) → slice_get bs k ≡ Some b → (is : List Instr) → ((id : ℕ) → has id (ids_of is) ≡ true → has id (ids_of b.instrs) ≡ true) → (p : Point) → Among p (instr_points is) → home_of x bs p ≡ Some k
  home-in k b at [] sub p m = elim m [ ]
  home-in k b at (i ∷ is) sub p m = entry (among-cases p (Entry i.id) (Exit i.id ∷ instr_points is) m) (home-in k b at is (λ id h. sub id (has-later id i.id (ids_of is) h)) p)
    where
      here-is : slice_index x.order.block_of.items i.id ≡ k
      here-is = finds.homes k b i.id at (sub i.id (has-first i.id (ids_of is)))

      exit : (p ≡ Exit i.id) ⊎ Among p (instr_points is) → (Among p (instr_points is) → home_of x bs p ≡ Some k) → home_of x bs p ≡ Some k
      exit (inl e) ih = ap (home_of x bs) e ∙ ap Some here-is
      exit (inr m) ih = ih m

      entry : (p ≡ Entry i.id) ⊎ Among p (Exit i.id ∷ instr_points is) → (Among p (instr_points is) → home_of x bs p ≡ Some k) → home_of x bs p ≡ Some k
      entry (inl e) ih = ap (home_of x bs) e ∙ ap Some here-is
      entry (inr m) ih = exit (among-cases p (Exit i.id) (instr_points is) m) ih

  home-is : (k : ℕ) (b : Block) → slice_get bs k ≡ Some b → (p : Point) → Among p (block_points b) → home_of x bs p ≡ Some k
  home-is k b at p m = elim (among-cases p (Start b.number) (instr_points b.instrs) m) [
    | inl e ↦ ap (home_of x bs) e ∙ placed k b at
    | inr h ↦ home-in k b at b.instrs (λ id g. g) p h
  ]

  -- where a point of these blocks is, the first of which stands at a position
  record IsLater (o : ℕ) (p : Point) : Type 0 where
    place : ℕ
    late : o ≤ place
    home : home_of x bs p ≡ Some place

  later : (o : ℕ) (cs : List Block) → ((j : ℕ) (c : Block) → slice_get cs j ≡ Some c → slice_get bs (o + j) ≡ Some c) → (p : Point) → Among p (flat_map block_points cs) → IsLater o p
  later o [] at p m = elim m [ ]
  later o (c ∷ cs) at p m = go (among-parts p (block_points c) (flat_map block_points cs) m) (later (suc o) cs (λ j d e. (let s : suc o + j ≡ o + suc j = omega arith in ap (slice_get bs) s ∙ at (suc j) d e)) p)
    where
      go : Among p (block_points c) ⊎ Among p (flat_map block_points cs) → (Among p (flat_map block_points cs) → IsLater (suc o) p) → IsLater o p
      go (inl h) ih = let z : o ≡ o + 0 = omega arith in record { place = o; late = omega arith; home = home-is o c (ap (slice_get bs) z ∙ at 0 c refl) p h }
      go (inr h) ih = let r = ih h in record { place = r.place; late = (let l = r.late in omega arith); home = r.home }

  apart-from : (o : ℕ) (cs : List Block) → ((j : ℕ) (c : Block) → slice_get cs j ≡ Some c → slice_get bs (o + j) ≡ Some c) → Apart (flat_map block_points cs)
  apart-from o [] at = tt
  apart-from o (c ∷ cs) at =
      apart-append (block_points c) (flat_map block_points cs) (block-apart x.order.slots c (finds.ranked o c here-at)) (apart-from (suc o) cs next) (λ p m k. (let r = later (suc o) cs next p k in let l = r.late in
      let same : Some r.place ≡ Some o = sym r.home ∙ home-is o c here-at p m in let e : r.place ≡ o = cc in absurd (omega arith)))
    where
      here-at : slice_get bs o ≡ Some c
      here-at = let z : o ≡ o + 0 = omega arith in ap (slice_get bs) z ∙ at 0 c refl

      next : (j : ℕ) (d : Block) → slice_get cs j ≡ Some d → slice_get bs (suc o + j) ≡ Some d
      next j d e = let s : suc o + j ≡ o + suc j = omega arith in ap (slice_get bs) s ∙ at (suc j) d e

  pub points-apart : Apart (flat_map block_points bs)
  points-apart = apart-from 0 bs (λ j c e. (let z : 0 + j ≡ j = omega arith in ap (slice_get bs) z ∙ e))

-- the index of a point among all points
abbrev pub index_in : List Point → Point → ℕ
index_in all p = position_or_len (same_point p) all

pub points-rise : (x : Table) (bs : List Block) → FindsInstrs x bs → ArePlaced bs → AreRanked (index_in (flat_map block_points bs)) 0 (flat_map block_points bs)
points-rise x bs finds placed = indexes-rise (flat_map block_points bs) [] (flat_map block_points bs) refl (points-apart x bs finds placed)
