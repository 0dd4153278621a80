-- Which lanes are live and occupied at every point of a function without phis, by computing.
use Rattle.std.proofs.Common.{◌≡◌, ◌∷◌, ◌++◌, ◌&&◌, ◌||◌, ◌⊎◌, ⊎_elim, ◌∙◌, not, ℕ, zero, suc, Bool, true, false, cond, List, refl, sym, ap, subst, inl, inr, map, drop, length, filter, flat_map, is_some, nat_eq, []}
use Rattle.std.specs.Prelude.{Decides}
use Rattle.std.proofs.lemmas.Bool.{eq-eqb, eqb-true}
use Rattle.std.specs.List.{list_all, list_any}
use Rattle.target_base.specs.declared.types.Target.{Target}
use Rattle.meaning.specs.Code.{BlockEnd, BlockStart, Code, Counted, Edge, Item, Silent, found}
use Rattle.meaning.specs.Lanes.{Writes, filled, same_lane}
use Rattle.meaning.specs.declared.types.Fill.TheVariants.{Moved}
use Rattle.meaning.specs.declared.types.Source.TheVariants.{FromLane}
use Rattle.meaning.specs.Live.{Among, Live, LiveAfter, OccupiedAfter, OccupiedBefore, after_leap, after_next, after_phi, exits_of, here, in_order, there, writes_of}
use Rattle.meaning.specs.declared.types.Lane.{Lane}
use Rattle.meaning.specs.declared.types.Lane.TheVariants.{SlotLane, UnitLane, VirtualLane}
use Rattle.mir_func.specs.declared.func.Block.{Block}
use Rattle.mir_func.specs.declared.func.Instr.{Instr}
use Rattle.mir_func.specs.Value.{Function}
use Rattle.mir_func.specs.Edits.{instr_place}
use Rattle.mir_meaning.specs.Codes.{block_end, blocks_code}
use Rattle.mir_meaning.specs.Points.{AtFirst, Entry, Exit, LiveAt, OccupiedAt, Point, Start, block_rest, from_instr, has_instr, RangePoint, Tests, point_item, points_of}
use Rattle.mir_meaning.specs.Registers.{is_reserved}
use Rattle.laws.proofs.Flow.{bool_cases, lane-inj, none_among}
use Rattle.laws.proofs.Following.{both-true}
use Rattle.laws.proofs.Least.{Ends, behind, whole}
use Rattle.laws.proofs.Quiet.{same-refl, same-true}
use Rattle.laws.proofs.Tables.{live-listed, or-true}
use Rattle.laws.specs.Tables.{LiveTable, code_listed, lists}
use Rattle.worked_examples.proofs.MachineCodeLemmas.Decided.{found_all}
use Rattle.worked_examples.proofs.MachineCodeLemmas.Occupied.{decides_early, decides_writing, early_of, lanes_of}
use Rattle.worked_examples.proofs.MachineCodeLemmas.Search.{found_live, table_of}

-- ends of codes

ends_choice : (code p q : Code) (b : Bool) → Ends code p → Ends code q → Ends code (cond b p q)
ends_choice code p q true e f = e
ends_choice code p q false e f = f

ends_found : (code : Code) (n : ℕ) (p : Code) → Ends code p → Ends code (found n p)
ends_found code n [] e = e
ends_found code n (BlockStart m ∷ p) e = ends_choice code p (found n p) (nat_eq m n) (behind e) (ends_found code n p (behind e))
ends_found code n (BlockEnd falls exits ∷ p) e = ends_found code n p (behind e)
ends_found code n (Silent reads ws ∷ p) e = ends_found code n p (behind e)
ends_found code n (Counted r reads ws target exits ∷ p) e = ends_found code n p (behind e)

ends_drop : (code rest : Code) (item : Instr → Item) (k : ℕ) (is : List Instr) → Ends code (map item is ++ rest) → Ends code (map item (drop k is) ++ rest)
ends_drop code rest item zero is e = e
ends_drop code rest item (suc k) [] e = e
ends_drop code rest item (suc k) (i ∷ is) e = ends_drop code rest item k is (behind e)

ends_behind : (code rest : Code) (item : Instr → Item) (is : List Instr) → Ends code (map item is ++ rest) → Ends code rest
ends_behind code rest item [] e = e
ends_behind code rest item (i ∷ is) e = ends_behind code rest item is (behind e)

-- lists of lanes

pub or_left : (a b : Bool) → a ≡ true → a || b ≡ true
or_left true b e = refl
or_left false b e = absurd (cc)

pub or_right : (a b : Bool) → b ≡ true → a || b ≡ true
or_right true b e = refl
or_right false b e = e

listed_either : (ks ls : List Lane) (l : Lane) → lists (ks ++ ls) l ≡ true → (lists ks l ≡ true) ⊎ (lists ls l ≡ true)
listed_either [] ls l e = inr e
listed_either (k ∷ ks) ls l e =
    ⊎_elim (λ h. inl (or_left (same_lane k l) (lists ks l) h))
    (λ h. ⊎_elim (λ g. inl (or_right (same_lane k l) (lists ks l) g)) inr (listed_either ks ls l (or-true (same_lane k l) (lists (ks ++ ls) l) e h)))
    (bool_cases (same_lane k l))

pub listed_left : (ks ls : List Lane) (l : Lane) → lists ks l ≡ true → lists (ks ++ ls) l ≡ true
listed_left [] ls l e = absurd (cc)
listed_left (k ∷ ks) ls l e =
    ⊎_elim (λ h. or_left (same_lane k l) (lists (ks ++ ls) l) h)
    (λ h. or_right (same_lane k l) (lists (ks ++ ls) l) (listed_left ks ls l (or-true (same_lane k l) (lists ks l) e h)))
    (bool_cases (same_lane k l))

pub listed_right : (ks ls : List Lane) (l : Lane) → lists ls l ≡ true → lists (ks ++ ls) l ≡ true
listed_right [] ls l e = e
listed_right (k ∷ ks) ls l e = or_right (same_lane k l) (lists (ks ++ ls) l) (listed_right ks ls l e)

listed_edge : (g : Edge → List Lane) (es : List Edge) (l : Lane) → lists (flat_map g es) l ≡ true → (e : Edge) × Among e es × (lists (g e) l ≡ true)
listed_edge g [] l h = absurd (cc)
listed_edge g (e ∷ es) l h = ⊎_elim (λ x. (e, here, x)) (λ x. later (listed_edge g es l x)) (listed_either (g e) (flat_map g es) l h)
  where
    later : (x : Edge) × Among x es × (lists (g x) l ≡ true) → (x : Edge) × Among x (e ∷ es) × (lists (g x) l ≡ true)
    later x = (x.0, there x.1, x.2)

edge_listed : (g : Edge → List Lane) (es : List Edge) (e : Edge) (l : Lane) → Among e es → lists (g e) l ≡ true → lists (flat_map g es) l ≡ true
edge_listed g [] e l a h = absurd (none_among e a)
edge_listed g (x ∷ es) e l here h = listed_left (g e) (flat_map g es) l h
edge_listed g (x ∷ es) e l (there a) h = listed_right (g x) (flat_map g es) l (edge_listed g es e l a h)

-- what is given of all is given of one
pub given_of : {X : Type 0} (test : X → Bool) (xs : List X) (x : X) → list_all test xs ≡ true → Among x xs → test x ≡ true
given_of test [] x h a = absurd (none_among x a)
given_of test (y ∷ xs) x h here = (both-true (test x) (list_all test xs) h).0
given_of test (y ∷ xs) x h (there a) = given_of test xs x (both-true (test y) (list_all test xs) h).1 a

-- the writes are none
abbrev pub is_nothing : Writes → Bool
is_nothing [] = true
is_nothing (w ∷ ws) = false

nothing : (ws : Writes) → is_nothing ws ≡ true → ws ≡ []
nothing [] e = refl
nothing (w ∷ ws) e = absurd (cc)

abbrev unreserved : (Lane → Bool) → List Lane → List Lane
unreserved reserved ls = filter (λ l. not (reserved l)) ls

listed_of_kept : (reserved : Lane → Bool) (ls : List Lane) (l : Lane) → lists (unreserved reserved ls) l ≡ true → (lists ls l ≡ true) × (reserved l ≡ false)
listed_of_kept reserved [] l e = absurd (cc)
listed_of_kept reserved (k ∷ ls) l e = go (listed_of_kept reserved ls l) (reserved k) refl e
  where
    more : (lists ls l ≡ true) × (reserved l ≡ false) → (same_lane k l || lists ls l ≡ true) × (reserved l ≡ false)
    more h = (or_right (same_lane k l) (lists ls l) h.0, h.1)

    go : (lists (unreserved reserved ls) l ≡ true → (lists ls l ≡ true) × (reserved l ≡ false)) → (r : Bool) → reserved k ≡ r → lists (cond (not r) (k ∷ unreserved reserved ls) (unreserved reserved ls)) l ≡ true → (same_lane k l || lists ls l ≡ true) × (reserved l ≡ false)
    go again true q h = more (again h)
    go again false q h =
        ⊎_elim (λ x. (or_left (same_lane k l) (lists ls l) x, subst (λ a. reserved a ≡ false) (same-true k l x) q))
        (λ x. more (again (or-true (same_lane k l) (lists (unreserved reserved ls) l) h x)))
        (bool_cases (same_lane k l))

kept_of_listed : (reserved : Lane → Bool) (ls : List Lane) (l : Lane) → lists ls l ≡ true → reserved l ≡ false → lists (unreserved reserved ls) l ≡ true
kept_of_listed reserved [] l e r = absurd (cc)
kept_of_listed reserved (k ∷ ls) l e r = go (λ h. kept_of_listed reserved ls l h r) (reserved k) refl
  where
    go : (lists ls l ≡ true → lists (unreserved reserved ls) l ≡ true) → (b : Bool) → reserved k ≡ b → lists (cond (not b) (k ∷ unreserved reserved ls) (unreserved reserved ls)) l ≡ true
    go again true q =
        ⊎_elim (λ x. let y : true ≡ false = sym q ∙ (ap reserved (same-true k l x) ∙ r) in absurd (cc))
        (λ x. again (or-true (same_lane k l) (lists ls l) e x))
        (bool_cases (same_lane k l))
    go again false q =
        ⊎_elim (λ x. or_left (same_lane k l) (lists (unreserved reserved ls) l) x)
        (λ x. or_right (same_lane k l) (lists (unreserved reserved ls) l) (again (or-true (same_lane k l) (lists ls l) e x)))
        (bool_cases (same_lane k l))

-- some listed lane passes the test
any_listed : (g : Lane → Bool) (ls : List Lane) → list_any g ls ≡ true → (l : Lane) × (lists ls l ≡ true) × (g l ≡ true)
any_listed g [] e = absurd (cc)
any_listed g (k ∷ ls) e = ⊎_elim (λ h. (k, or_left (same_lane k k) (lists ls k) (same-refl k), h)) (λ h. later (any_listed g ls (or-true (g k) (list_any g ls) e h))) (bool_cases (g k))
  where
    later : (l : Lane) × (lists ls l ≡ true) × (g l ≡ true) → (l : Lane) × (same_lane k l || lists ls l ≡ true) × (g l ≡ true)
    later x = (x.0, or_right (same_lane k x.0) (lists ls x.0) x.1, x.2)

listed_any : (g : Lane → Bool) (ls : List Lane) (l : Lane) → lists ls l ≡ true → g l ≡ true → list_any g ls ≡ true
listed_any g [] l e h = absurd (cc)
listed_any g (k ∷ ls) l e h =
    ⊎_elim (λ x. or_left (g k) (list_any g ls) (subst (λ a. g a ≡ true) (sym (same-true k l x)) h))
    (λ x. or_right (g k) (list_any g ls) (listed_any g ls l (or-true (same_lane k l) (lists ls l) e x) h))
    (bool_cases (same_lane k l))

-- where a test tells just some lanes, one more test tells whether one of them passes it
pub some_decided : (g : Lane → Bool) (ls : List Lane) (P : Lane → Type 0) → ((l : Lane) → Decides (lists ls l) (P l)) → Decides (list_any g ls) ((l : Lane) × P l × (g l ≡ true))
some_decided g ls P d = ((λ h. forth (any_listed g ls h)), (λ h. listed_any g ls h.0 ((d h.0).1 h.1) h.2))
  where
    forth : (l : Lane) × (lists ls l ≡ true) × (g l ≡ true) → (l : Lane) × P l × (g l ≡ true)
    forth x = (x.0, (d x.0).0 x.1, x.2)

-- the lane is one of the range
abbrev pub is_lane_of : ℕ → Lane → Bool
is_lane_of v (VirtualLane w k) = nat_eq v w
is_lane_of v _ = false

lane_of : (P : Lane → Type 0) (v : ℕ) (l : Lane) → P l → is_lane_of v l ≡ true → (k : ℕ) × P (VirtualLane v k)
lane_of P v (VirtualLane w k) p e = (k, subst (λ x. P (VirtualLane x k)) (sym (eqb-true v w e)) p)
lane_of P v (UnitLane u) p e = absurd (cc)
lane_of P v (SlotLane s k w) p e = absurd (cc)

-- some lane of a range
pub range_decided : (v : ℕ) (ls : List Lane) (P : Lane → Type 0) → ((l : Lane) → Decides (lists ls l) (P l)) → Decides (list_any (is_lane_of v) ls) ((k : ℕ) × P (VirtualLane v k))
range_decided v ls P d = let s = some_decided (is_lane_of v) ls P d in ((λ h. shown (s.0 h)), (λ h. s.1 (VirtualLane v h.0, h.1, eq-eqb v v refl)))
  where
    shown : (l : Lane) × P l × (is_lane_of v l ≡ true) → (k : ℕ) × P (VirtualLane v k)
    shown x = lane_of P v x.0 x.1 x.2

module _ (t : Target) (f : Function) (n m : ℕ) where
  abbrev pub reserved : Lane → Bool
  reserved = is_reserved t

  abbrev pub code : Code
  code = points_of t f

  abbrev table : LiveTable
  table = table_of n reserved code

  -- the lanes that n passes find live at a place
  abbrev pub row : Code → List Lane
  row p = table (length p)

  -- each of them is found live there, within m steps
  abbrev found_here : Code → Bool
  found_here p = list_all (λ a. is_some (found_live reserved code m p a)) (row p)

  abbrev found_everywhere : Code → Bool
  found_everywhere [] = found_here []
  found_everywhere (i ∷ p) = found_here (i ∷ p) && found_everywhere p

  abbrev without_phis : Code → Bool
  without_phis [] = true
  without_phis (i ∷ p) = list_all (λ e. is_nothing e.phis) (exits_of i) && without_phis p

  -- the passes found just what is live, and there are no phis
  abbrev pub is_computed : Bool
  is_computed = code_listed reserved code table code && (found_everywhere code && without_phis code)

  -- the lanes that are live behind the first item of a place
  abbrev pub after : Item → Code → List Lane
  after i p = cond (in_order i) (row p) [] ++ flat_map (λ e. row (found e.block code)) (exits_of i)

  abbrev pub after_first : Code → List Lane
  after_first [] = []
  after_first (i ∷ p) = after i p

  -- the lanes that are live at a point
  abbrev pub live_lanes : Point → List Lane
  live_lanes (Start b) = row (found b code)
  live_lanes (Entry id) = row (from_instr t f id f.blocks)
  live_lanes (Exit id) = after_first (from_instr t f id f.blocks)

  abbrev pub entering : Code → List Lane
  entering [] = []
  entering (i ∷ p) = unreserved reserved (row (i ∷ p) ++ lanes_of (early_of (writes_of i)))

  abbrev pub leaving : Code → List Lane
  leaving [] = []
  leaving (i ∷ p) = unreserved reserved (after i p ++ lanes_of (writes_of i))

  -- those that are live or occupied there
  abbrev pub occupied_lanes : Point → List Lane
  occupied_lanes (Start b) = row (found b code)
  occupied_lanes (Entry id) = entering (from_instr t f id f.blocks)
  occupied_lanes (Exit id) = leaving (from_instr t f id f.blocks)

  module _ (computed : is_computed ≡ true) where
    listed : code_listed reserved code table code ≡ true
    listed = (both-true (code_listed reserved code table code) (found_everywhere code && without_phis code) computed).0

    rest : found_everywhere code && without_phis code ≡ true
    rest = (both-true (code_listed reserved code table code) (found_everywhere code && without_phis code) computed).1

    all_there : found_everywhere code ≡ true
    all_there = (both-true (found_everywhere code) (without_phis code) rest).0

    no_phis : without_phis code ≡ true
    no_phis = (both-true (found_everywhere code) (without_phis code) rest).1

    found_at : {p : Code} → Ends code p → found_everywhere p ≡ true
    found_at whole = all_there
    found_at (behind {i = i} {p = p} e) = (both-true (found_here (i ∷ p)) (found_everywhere p) (found_at e)).1

    found_there : (p : Code) → found_everywhere p ≡ true → found_here p ≡ true
    found_there [] h = h
    found_there (i ∷ p) h = (both-true (found_here (i ∷ p)) (found_everywhere p) h).0

    phis_at : {p : Code} → Ends code p → without_phis p ≡ true
    phis_at whole = no_phis
    phis_at (behind {i = i} {p = p} e) = (both-true (list_all (λ e. is_nothing e.phis) (exits_of i)) (without_phis p) (phis_at e)).1

    pub live_there : (p : Code) → Ends code p → (l : Lane) → Decides (lists (row p) l) (Live reserved code p l)
    live_there p e l = ((λ h. found_all reserved code m p (row p) l (found_there p (found_at e)) h), (λ h. live-listed reserved code table listed h e))

    module _ (i : Item) (p : Code) (at : Ends code (i ∷ p)) where
      no_phis_of : (e : Edge) → Among e (exits_of i) → e.phis ≡ []
      no_phis_of e a = nothing e.phis (given_of (λ x. is_nothing x.phis) (exits_of i) e (both-true (list_all (λ x. is_nothing x.phis) (exits_of i)) (without_phis p) (phis_at at)).0 a)

      leaps : (l : Lane) → (e : Edge) × Among e (exits_of i) × (lists (row (found e.block code)) l ≡ true) → LiveAfter reserved code i p l
      leaps l x = after_leap x.1 ((live_there (found x.0.block code) (ends_found code x.0.block code whole) l).0 x.2) (ap (λ ws. filled ws l) (no_phis_of x.0 x.1))

      in_order_lists : (l : Lane) (b : Bool) → in_order i ≡ b → lists (cond b (row p) []) l ≡ true → LiveAfter reserved code i p l
      in_order_lists l true q h = after_next q ((live_there p (behind at) l).0 h)
      in_order_lists l false q h = absurd (cc)

      lists_in_order : (l : Lane) (b : Bool) → in_order i ≡ b → in_order i ≡ true → lists (row p) l ≡ true → lists (cond b (row p) []) l ≡ true
      lists_in_order l true q o h = h
      lists_in_order l false q o h = let y : true ≡ false = sym o ∙ q in absurd (cc)

      pub decides_after : (l : Lane) → Decides (lists (after i p) l) (LiveAfter reserved code i p l)
      decides_after l =
          ((λ h. ⊎_elim (in_order_lists l (in_order i) refl) (λ x. leaps l (listed_edge (λ e. row (found e.block code)) (exits_of i) l x)) (listed_either (cond (in_order i) (row p) []) (flat_map (λ e. row (found e.block code)) (exits_of i)) l h)), back)
        where
          back : LiveAfter reserved code i p l → lists (after i p) l ≡ true
          back (after_next o h) = listed_left (cond (in_order i) (row p) []) (flat_map (λ e. row (found e.block code)) (exits_of i)) l (lists_in_order l (in_order i) refl o ((live_there p (behind at) l).1 h))
          back (after_leap {e = e} {a = a} x h g) =
              listed_right (cond (in_order i) (row p) []) (flat_map (λ e. row (found e.block code)) (exits_of i)) l
              (edge_listed (λ e. row (found e.block code)) (exits_of i) e l x
              (subst (λ b. lists (row (found e.block code)) b ≡ true) (lane-inj a l (subst (λ ws. filled ws a ≡ Moved (FromLane l)) (no_phis_of e x) g)) ((live_there (found e.block code) (ends_found code e.block code whole) a).1 h)))
          back (after_phi {e = e} {w = w} x y g) = absurd (none_among w (subst (Among w) (no_phis_of e x) y))

      decides_leaving : (l : Lane) → Decides (lists (leaving (i ∷ p)) l) (OccupiedAfter reserved code i p l)
      decides_leaving l = ((λ h. forth (listed_of_kept reserved (after i p ++ lanes_of (writes_of i)) l h)), back)
        where
          forth : (lists (after i p ++ lanes_of (writes_of i)) l ≡ true) × (reserved l ≡ false) → OccupiedAfter reserved code i p l
          forth h = (⊎_elim (λ x. inl ((decides_after l).0 x)) (λ x. inr ((decides_writing reserved code i p l).0 x)) (listed_either (after i p) (lanes_of (writes_of i)) l h.0), h.1)

          back : OccupiedAfter reserved code i p l → lists (leaving (i ∷ p)) l ≡ true
          back h =
              kept_of_listed reserved (after i p ++ lanes_of (writes_of i)) l
              (⊎_elim (λ x. listed_left (after i p) (lanes_of (writes_of i)) l ((decides_after l).1 x)) (λ x. listed_right (after i p) (lanes_of (writes_of i)) l ((decides_writing reserved code i p l).1 x)) h.0)
              h.1

      decides_entering : (l : Lane) → Decides (lists (entering (i ∷ p)) l) (OccupiedBefore reserved code i p l)
      decides_entering l = ((λ h. forth (listed_of_kept reserved (row (i ∷ p) ++ lanes_of (early_of (writes_of i))) l h)), back)
        where
          forth : (lists (row (i ∷ p) ++ lanes_of (early_of (writes_of i))) l ≡ true) × (reserved l ≡ false) → OccupiedBefore reserved code i p l
          forth h = (⊎_elim (λ x. inl ((live_there (i ∷ p) at l).0 x)) (λ x. inr ((decides_early reserved code i p l).0 x)) (listed_either (row (i ∷ p)) (lanes_of (early_of (writes_of i))) l h.0), h.1)

          back : OccupiedBefore reserved code i p l → lists (entering (i ∷ p)) l ≡ true
          back h =
              kept_of_listed reserved (row (i ∷ p) ++ lanes_of (early_of (writes_of i))) l
              (⊎_elim (λ x. listed_left (row (i ∷ p)) (lanes_of (early_of (writes_of i))) l ((live_there (i ∷ p) at l).1 x)) (λ x. listed_right (row (i ∷ p)) (lanes_of (early_of (writes_of i))) l ((decides_early reserved code i p l).1 x)) h.0)
              h.1

    -- the place of an instruction is an end of the code
    ends_from : (id : ℕ) (bs : List Block) → Ends code (blocks_code (point_item t f) t f bs) → Ends code (from_instr t f id bs)
    ends_from id [] e = e
    ends_from id (b ∷ bs) e =
        ends_choice code (block_rest t f b bs (instr_place id b.instrs)) (from_instr t f id bs) (has_instr id b)
        (ends_drop code (block_end t f b bs ∷ blocks_code (point_item t f) t f bs) (point_item t f b) (instr_place id b.instrs) b.instrs (behind e))
        (ends_from id bs (behind (ends_behind code (block_end t f b bs ∷ blocks_code (point_item t f) t f bs) (point_item t f b) b.instrs (behind e))))

    ends_instr : (id : ℕ) → Ends code (from_instr t f id f.blocks)
    unfolding points_of
    ends_instr id = ends_from id f.blocks whole

    after_place : (p : Code) → Ends code p → (l : Lane) → Decides (lists (after_first p) l) (AtFirst (λ i q. LiveAfter reserved code i q l) p)
    after_place [] e l = ((λ h. absurd (cc)), (λ h. absurd h))
    after_place (i ∷ p) e l = decides_after i p e l

    leaving_place : (p : Code) → Ends code p → (l : Lane) → Decides (lists (leaving p) l) (AtFirst (λ i q. OccupiedAfter reserved code i q l) p)
    leaving_place [] e l = ((λ h. absurd (cc)), (λ h. absurd h))
    leaving_place (i ∷ p) e l = decides_leaving i p e l

    entering_place : (p : Code) → Ends code p → (l : Lane) → Decides (lists (entering p) l) (AtFirst (λ i q. OccupiedBefore reserved code i q l) p)
    entering_place [] e l = ((λ h. absurd (cc)), (λ h. absurd h))
    entering_place (i ∷ p) e l = decides_entering i p e l

    -- just these lanes are live at each point, and just these are live or occupied
    pub live_at : (q : Point) (l : Lane) → Decides (lists (live_lanes q) l) (LiveAt t f q l)
    live_at (Start b) l = live_there (found b code) (ends_found code b code whole) l
    live_at (Entry id) l = live_there (from_instr t f id f.blocks) (ends_instr id) l
    live_at (Exit id) l = after_place (from_instr t f id f.blocks) (ends_instr id) l

    pub occupied_at : (q : Point) (l : Lane) → Decides (lists (occupied_lanes q) l) (OccupiedAt t f q l)
    occupied_at (Start b) l = live_there (found b code) (ends_found code b code whole) l
    occupied_at (Entry id) l = entering_place (from_instr t f id f.blocks) (ends_instr id) l
    occupied_at (Exit id) l = leaving_place (from_instr t f id f.blocks) (ends_instr id) l

    -- a range is live at a point, or has a lane there
    abbrev pub live_test : ℕ → Point → Bool
    live_test v q = list_any (is_lane_of v) (live_lanes q)

    abbrev pub point_test : ℕ → Point → Bool
    point_test v q = list_any (is_lane_of v) (occupied_lanes q)

    pub range_live : (v : ℕ) → Tests (λ q. (k : ℕ) × LiveAt t f q (VirtualLane v k)) (live_test v)
    range_live v q = range_decided v (live_lanes q) (LiveAt t f q) (live_at q)

    pub range_points : (v : ℕ) → Tests (RangePoint t f v) (point_test v)
    range_points v q = range_decided v (occupied_lanes q) (OccupiedAt t f q) (occupied_at q)
