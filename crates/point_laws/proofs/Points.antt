-- The points of a function by their ranks in blocks, and at which of them lanes are live or occupied.
use Rattle.std.proofs.Common.{◌≡◌, ◌≤◌, ◌<◌, ◌+◌, ◌-◌, ℕ, zero, suc, Bool, true, false, List, [], ◌∷◌, Option, None, Some, refl, sym, ◌∙◌, subst, arith}
use Rattle.std.specs.Prelude.{◌↔◌, ◌||◌, nat_le, slice_get}
use Rattle.std.specs.List.{list_any}
use Rattle.std.proofs.lemmas.Bool.{leb-true, le-leb}
use Rattle.target_base.specs.declared.types.Target.{Target}
use Rattle.meaning.specs.declared.types.Lane.{Lane}
use Rattle.meaning.specs.Live.{Among as Member, here as first, there as later, is_slot}
use Rattle.mir_func.specs.declared.func.Block.{Block}
use Rattle.mir_func.specs.declared.func.Instr.{Instr}
use Rattle.mir_func.specs.Value.{Function}
use Rattle.mir_meaning.specs.Points.{Point, Start, Entry, Exit, OccupiedAt, block_points}
use Rattle.mir_meaning.specs.Registers.{numbers}
use Rattle.mir_meaning.specs.Rules.{V8}
use Rattle.instr_effects.specs.Numbered.{number_in}
use Rattle.instr_effects.specs.Stepping.{tag_of}
use Rattle.instr_effects.proofs.Members.{member-none, member-elim, flat-of, flat-in}
use Rattle.live_laws.specs.Effects.Shaped.{is_proper}
use Rattle.live_laws.specs.Effects.Coded.{spot_in, KeepsRules}
use Rattle.live_laws.proofs.Effects.Blocks.{slice-member, place-block}
use Rattle.live_laws.proofs.Effects.Lists.{any-in}
use Rattle.live_lanes.specs.declared.ask.extent.Extent.{Extent}
use Rattle.live_lanes.specs.declared.ask.extent.Stretch.{Stretch}
use Rattle.live_lanes.specs.declared.table.Table.{Table}
use Rattle.live_lanes.specs.Table.{Numbers}
use Rattle.live_lanes.specs.Doing.{IsComputed}
use Rattle.live_lanes.specs.Entered.{rows_seen}
use Rattle.live_lanes.specs.Extents.{first_rank, last_rank, stretch_of, is_met, extents_in}
use Rattle.live_lanes.specs.Held.{held_at}
use Rattle.live_lanes.specs.Ordered.{place_of}
use Rattle.live_lanes.proofs.Cells.{both, both-left, both-right}
use Rattle.live_lanes.proofs.Extents.{any-in as number-in}
use Rattle.live_laws.specs.Exact.Occupied.{TellsOccupied}
use Rattle.live_laws.proofs.Exact.Coded.{place-same}
use Rattle.live_laws.proofs.Exact.Everywhere.{spot-at, no-start, no-entry, no-exit}
use Rattle.live_laws.proofs.Exact.Occupied.{occupied-law}
use Rattle.live_laws.proofs.Exact.Spots.{Spot, spot}
use Rattle.point_laws.specs.Covered.{covers, rank_of, IsRank, AreCovered, LiesIn}
use Rattle.point_laws.proofs.Covered.{covered-law}
use Rattle.point_laws.proofs.Overlap.{meet}
use Rattle.point_laws.proofs.Pieces.{any-of}

-- a number of a row that passes a test
pub number-of : (test : ℕ → Bool) (a n : ℕ) → list_any test (numbers a n) ≡ true → (x : ℕ) × (a ≤ x) × (x < a + n) × (test x ≡ true)
number-of test a zero e = absurd (cc)
number-of test a (suc n) e = go (test a) refl e (number-of test (suc a) n)
  where
    go : (u : Bool) → test a ≡ u → (u || list_any test (numbers (suc a) n)) ≡ true → (list_any test (numbers (suc a) n) ≡ true → (x : ℕ) × (suc a ≤ x) × (x < suc a + n) × (test x ≡ true)) → (x : ℕ) × (a ≤ x) × (x < a + suc n) × (test x ≡ true)
    go true f g ih = (a, omega arith, omega arith, f)
    go false f g ih = let z = ih g in let lo = z.1 in let hi = z.2 in (z.0, omega (arith, lo), omega (arith, hi), z.3)

-- where a point stands: the position and the block
pub record Placed (f : Function) (p : Point) : Type 0 where
  pub position : ℕ
  pub block : Block
  pub at : slice_get f.blocks position ≡ Some block
  pub member : Member p (block_points block)

module _ (b : Block) where
  abbrev both-points : Instr → List Point
  both-points i = Entry i.id ∷ Exit i.id ∷ []

  pub entry-member : (i : Instr) → Member i b.instrs → Member (Entry i.id) (block_points b)
  entry-member i m = later (flat-in both-points (Entry i.id) i b.instrs m first)

  pub exit-member : (i : Instr) → Member i b.instrs → Member (Exit i.id) (block_points b)
  exit-member i m = later (flat-in both-points (Exit i.id) i b.instrs m (later first))

  -- what holds at the block's start and around each instruction holds at its points
  pub points-of : (P : Point → Type 0) → P (Start b.number) → ((i : Instr) → Member i b.instrs → P (Entry i.id) × P (Exit i.id)) → (p : Point) → Member p (block_points b) → P p
  points-of P start inside p m = member-elim p (Start b.number) _ (λ e. subst P (sym e) start) (λ j. let z = flat-of both-points p b.instrs j in let h = inside z.0 z.1 in member-elim p (Entry z.0.id) (Exit z.0.id ∷ []) (λ e. subst P (sym e) h.0) (λ k. member-elim p (Exit z.0.id) [] (λ e. subst P (sym e) h.1) (λ n. absurd (member-none p n)) k) z.2) m

module _ (t : Target) (f : Function) (x : Table) (computed : IsComputed t f x) (rules : KeepsRules t f) (last : (b : Block) (j : ℕ) (i : Instr) → Member b f.blocks → slice_get b.instrs j ≡ Some i → V8 t b j i ≡ true) where
  abbrev slots : Numbers
  slots = x.order.slots

  -- the lane of that number is live or occupied at the point of that rank in the block at a position
  abbrev pub held : ℕ → ℕ → ℕ → Bool
  held n p at = held_at slots (rows_seen x.rows.rows.items n p) at

  tells : TellsOccupied t f x
  tells = occupied-law t f x computed rules last

  pub covers-all : AreCovered f x
  covers-all = covered-law t f x computed rules last

  -- a numbered lane's points are those at which it is live or occupied
  pub held-is : (l : Lane) (n : ℕ) → is_slot l ≡ false → tag_of (number_in x.lanes) (is_proper t) l ≡ Some n → (k : ℕ) (b : Block) → slice_get f.blocks k ≡ Some b → (p : Point) → Member p (block_points b) → (held n k (rank_of slots p) ≡ true) ↔ OccupiedAt t f p l
  held-is l n still tagged k b e p m = points-of b (λ q. (held n k (rank_of slots q) ≡ true) ↔ OccupiedAt t f q l) (tells.start l n still tagged k b e) inside p m
    where
      inside : (i : Instr) → Member i b.instrs → ((held n k (rank_of slots (Entry i.id)) ≡ true) ↔ OccupiedAt t f (Entry i.id) l) × ((held n k (rank_of slots (Exit i.id)) ≡ true) ↔ OccupiedAt t f (Exit i.id) l)
      inside i j = let z = spot-at t f x computed rules last k b i e j in (tells.entry l n still tagged i.id k z.0 z.1, tells.exit l n still tagged i.id k z.0 z.1)

  by-spot : (p : Point) (id y k : ℕ) → spot_in id f.blocks ≡ Some (y, k) → ((b : Block) (i : Instr) → Member i b.instrs → i.id ≡ id → Member p (block_points b)) → Placed f p
  by-spot p id y k e g = let s : Spot t f id f.blocks y k = spot t f id f.blocks y k e in record { position = y; block = s.block; at = s.place; member = g s.block s.instr (slice-member s.block.instrs k s.instr s.there) s.named }

  -- a point at which a lane is live or occupied stands in some block
  pub placed : (l : Lane) (p : Point) → OccupiedAt t f p l → Placed f p
  placed l (Start n) h = go (place_of n f.blocks) refl
    where
      go : (q : Option ℕ) → place_of n f.blocks ≡ q → Placed f (Start n)
      go None e = absurd (no-start t f x computed rules last l n e h)
      go (Some k) e =
          let b = place-block n f.blocks k (sym (place-same n f.blocks) ∙ e) in
          record { position = k; block = b.0; at = b.1; member = subst (λ m. Member (Start m) (block_points b.0)) b.2 first }
  placed l (Entry id) h = go (spot_in id f.blocks) refl
    where
      go : (q : Option (ℕ × ℕ)) → spot_in id f.blocks ≡ q → Placed f (Entry id)
      go None e = absurd (no-entry t f x computed rules last l id e h)
      go (Some (y, k)) e = by-spot (Entry id) id y k e (λ b i m g. subst (λ n. Member (Entry n) (block_points b)) g (entry-member b i m))
  placed l (Exit id) h = go (spot_in id f.blocks) refl
    where
      go : (q : Option (ℕ × ℕ)) → spot_in id f.blocks ≡ q → Placed f (Exit id)
      go None e = absurd (no-exit t f x computed rules last l id e h)
      go (Some (y, k)) e = by-spot (Exit id) id y k e (λ b i m g. subst (λ n. Member (Exit n) (block_points b)) g (exit-member b i m))

  -- held points are those of extents

  pub held-extent : (n p at : ℕ) → held n p at ≡ true → (e : Extent) × Member e (extents_in x n p) × LiesIn (stretch_of slots e) at
  held-extent n p at h =
      let z = any-of (covers slots at) (extents_in x n p) (covers-all.covered n p at ∙ h) in
      (z.1, slice-member (extents_in x n p) z.0 z.1 z.2, (leb-true (first_rank slots z.1) at (both-left (nat_le (first_rank slots z.1) at) (nat_le at (last_rank slots z.1)) z.3), leb-true at (last_rank slots z.1) (both-right (nat_le (first_rank slots z.1) at) (nat_le at (last_rank slots z.1)) z.3)))

  pub extent-held : (n p at : ℕ) (e : Extent) → Member e (extents_in x n p) → LiesIn (stretch_of slots e) at → held n p at ≡ true
  extent-held n p at e m h = sym (covers-all.covered n p at) ∙ any-in (covers slots at) e (extents_in x n p) m (both (nat_le (first_rank slots e) at) (nat_le at (last_rank slots e)) (le-leb (first_rank slots e) at h.0) (le-leb at (last_rank slots e) h.1))

  -- extents of two lanes in one block that have a number in common have a point in common
  pub record Common (n m p : ℕ) : Type 0 where
    pub block : Block
    pub at : slice_get f.blocks p ≡ Some block
    pub point : Point
    pub member : Member point (block_points block)
    pub one : held n p (rank_of slots point) ≡ true
    pub other : held m p (rank_of slots point) ≡ true

  same-block : (b c : Block) → Some b ≡ Some c → b ≡ c
  same-block b c e = cc

  pub common : (n m p at : ℕ) (d e : Extent) → Member d (extents_in x n p) → Member e (extents_in x m p) → LiesIn (stretch_of slots d) at → LiesIn (stretch_of slots e) at → Common n m p
  common n m p at d e i j h g =
      let y = covers-all.begins n p d i in
      let z = covers-all.begins m p e j in
      let same : z.0 ≡ y.0 = same-block z.0 y.0 (sym z.1 ∙ y.1) in
      let w = meet slots y.0 (stretch_of slots d) (stretch_of slots e) y.2 (subst (λ b. IsRank slots b (first_rank slots e)) same z.2) at h g in
      record { block = y.0; at = y.1; point = w.0; member = w.1; one = extent-held n p (rank_of slots w.0) d i w.2; other = extent-held m p (rank_of slots w.0) e j w.3 }

  -- a lane has a point in a stretch
  pub met-of : (n p : ℕ) (s : Stretch) → is_met x n p s ≡ true → (at : ℕ) × LiesIn s at × (held n p at ≡ true)
  met-of n p s h = let z = number-of (held n p) s.first (s.last + 1 - s.first) h in let lo = z.1 in let hi = z.2 in (z.0, (lo, omega (arith, lo, hi)), z.3)

  pub met-in : (n p : ℕ) (s : Stretch) (at : ℕ) → LiesIn s at → held n p at ≡ true → is_met x n p s ≡ true
  met-in n p s at h g = number-in (held n p) s.first (s.last + 1 - s.first) at h.0 (omega (arith, h)) g
