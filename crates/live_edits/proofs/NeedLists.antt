-- Lists of what leads to a piece: how they grow, and that they hold exactly that.
use Rattle.std.proofs.Common.{◌≡◌, ◌⊎◌, inl, inr, ◌<◌, ◌+◌, ℕ, zero, suc, Bool, true, false, cond, ◌&&◌, nat_eq, length, List, [], ◌∷◌, ◌++◌, map, take, get_or, append_assoc, Option, None, Some, refl, sym, ap, ◌∙◌, subst, arith, eqb-true, eq-eqb}
use Rattle.std.specs.List.{list_any}
use Rattle.std.proofs.lemmas.List.{map_push, map_more}
use Rattle.mir_meaning.specs.Paths.{Among, here, there, is_some_number}
use Rattle.live_lanes.specs.declared.compute.flow.BlockFlow.{BlockFlow}
use Rattle.live_lanes.specs.declared.row.Cause.TheVariants as causes
use Rattle.live_lanes.specs.declared.row.LaneRange.{LaneRange}
use Rattle.live_lanes.specs.declared.row.LaneUse.{LaneUse}
use Rattle.live_lanes.specs.Ways.{predecessors, terminators}
use Rattle.live_lanes.specs.Table.{Numbers, Seen, is_begun, entry_rank, exit_rank, readings_in, moved_in}
use Rattle.live_lanes.specs.Entered.{reading, rows_seen}
use Rattle.live_lanes.specs.Growth.{piece_in_rows}
use Rattle.live_lanes.proofs.Basics.{none-among}
use Rattle.live_lanes.proofs.Numbered.{among-cases, among-left, among-right}
use Rattle.edit_laws.specs.Chains.{Node}
use Rattle.edit_laws.specs.Needs.{IsNeed, need_end, need_exit, need_move}
use Rattle.edit_laws.specs.Update.{Request}
use Rattle.live_edits.specs.declared.pieces.Need.{Need}
use Rattle.live_edits.specs.Leading.{AreAlike, exit_beside, end_need, exit_need, exit_needs, needs_before, is_move, move_need, move_needs, needs_of}
use Rattle.live_edits.specs.Pieces.{request_of, requests_of}
use Rattle.live_edits.specs.Updated.{AreNeedsOf}
use Rattle.live_edits.proofs.AlikeLists.{alike-equal, alike-then, alike-before, alike-own}
use Rattle.live_edits.proofs.AskMembers.{among-flat, flat-among, among-map, map-among, any-among, among-any}
use Rattle.live_edits.proofs.RiseSteps.{only}
use Rattle.live_edits.proofs.RiseThere.{leading-within}

-- the exits of one block

module _ (slots : Numbers) (rows : List LaneRange) (l x b : ℕ) where
  -- the last piece of the lane in the block, where it has that number
  abbrev pub last-need : ℕ → ℕ → Need
  last-need near k = record { spot = record { lane = l; block = b; index = k; near = near }; cause = causes.Follower x }

  end-among : (from : List Request) (ids : List ℕ) → Among (end_need rows l x b) (from ++ exit_needs slots rows l x b ids)
  end-among from ids = among-right (end_need rows l x b) from (exit_needs slots rows l x b ids) here

  -- the last piece alone, where it is the only one
  pub exits-only : (near : ℕ) (from to : List Need) (ids : List ℕ) → to ≡ from ++ last-need near 0 ∷ [] → 0 ≡ length (rows_seen rows l b).segments → AreAlike (requests_of to) (requests_of from ++ exit_needs slots rows l x b ids)
  exits-only near from to ids t none =
      alike-then (requests_of to) (requests_of from ++ end_need rows l x b ∷ []) (requests_of from ++ exit_needs slots rows l x b ids)
      (alike-equal (requests_of to) (requests_of from ++ end_need rows l x b ∷ []) (ap requests_of t ∙ (map_push request_of from (last-need near 0) ∙ (λ i. requests_of from ++ record { node = (l, b, none i); cause = causes.Follower x } ∷ []))))
      (subst (AreAlike (requests_of from ++ end_need rows l x b ∷ [])) (append_assoc (requests_of from) (end_need rows l x b ∷ []) (map (exit_need slots rows l x b) ids))
      (alike-own (requests_of from ++ end_need rows l x b ∷ []) (map (exit_need slots rows l x b) ids) own))
    where
      at-first : (id : ℕ) → piece_in_rows slots rows l b (exit_rank slots id) ≡ length (rows_seen rows l b).segments
      at-first id = let w = leading-within (is_begun slots (exit_rank slots id)) (rows_seen rows l b).segments in omega (arith, w, none)

      own : (q : Request) → Among q (map (exit_need slots rows l x b) ids) → Among q (requests_of from ++ end_need rows l x b ∷ [])
      own q a =
          let z = among-map (exit_need slots rows l x b) q ids a in
          let e : end_need rows l x b ≡ q = (λ i. record { node = (l, b, sym (at-first z.0) i); cause = causes.Follower x }) ∙ sym z.2 in
          subst (λ y. Among y (requests_of from ++ end_need rows l x b ∷ [])) e (end-among (requests_of from) [])

  -- the last piece, and then the exits of the terminators, as its cell tells them
  pub exits-all : (near : ℕ) (from mid to : List Need) (k : ℕ) (ids : List ℕ) (v : Seen) → v ≡ rows_seen rows l b → k ≡ length v.segments → mid ≡ from ++ last-need near k ∷ []
      → AreAlike (requests_of to) (requests_of mid ++ map (exit_beside slots v (request_of (last-need near k))) ids) → AreAlike (requests_of to) (requests_of from ++ exit_needs slots rows l x b ids)
  exits-all near from mid to k ids v seen last t e = subst (AreAlike (requests_of to)) whole e
    where
      beside : Seen → List Request
      beside w = map (exit_beside slots w (request_of (last-need near k))) ids

      at-last : k ≡ length (rows_seen rows l b).segments
      at-last = last ∙ ap (λ w. length w.segments) seen

      whole : requests_of mid ++ beside v ≡ requests_of from ++ exit_needs slots rows l x b ids
      whole =
          ap (λ ns. requests_of ns ++ beside v) t
          ∙ (ap (λ q. q ++ beside v) (map_push request_of from (last-need near k))
          ∙ (append_assoc (requests_of from) (request_of (last-need near k) ∷ []) (beside v)
          ∙ (λ i. requests_of from ++ record { node = (l, b, at-last i); cause = causes.Follower x } ∷ beside (seen i))))

-- what was added last is there
pub last-among : (from to : List Need) (n : Need) → to ≡ from ++ n ∷ [] → Among (request_of n) (requests_of to)
last-among from to n t =
    subst (λ ns. Among (request_of n) (requests_of ns)) (sym t)
    (subst (Among (request_of n)) (sym (map_push request_of from n)) (among-right (request_of n) (requests_of from) (request_of n ∷ []) here))

-- what is listed for numbers one by one
module _ (f : ℕ → Request) (from : List Request) (ids : List ℕ) (k : ℕ) (mid : List Need) (h : k < length ids) (e : AreAlike (requests_of mid) (from ++ map f (take k ids))) where
  one-more : (from ++ map f (take k ids)) ++ f (get_or ids k 0) ∷ [] ≡ from ++ map f (take (k + 1) ids)
  one-more = append_assoc from (map f (take k ids)) (f (get_or ids k 0) ∷ []) ∙ ap (λ q. from ++ q) (sym (map_more f ids k 0 h))

  -- one more is added
  pub listed-more : (to : List Need) (n : Need) → to ≡ mid ++ n ∷ [] → request_of n ≡ f (get_or ids k 0) → AreAlike (requests_of to) (from ++ map f (take (k + 1) ids))
  listed-more to n t r =
      subst (AreAlike (requests_of to)) one-more
      (subst (λ ys. AreAlike ys ((from ++ map f (take k ids)) ++ f (get_or ids k 0) ∷ [])) (sym (ap requests_of t ∙ (map_push request_of mid n ∙ ap (λ q. requests_of mid ++ q ∷ []) r)))
      (alike-before (requests_of mid) (from ++ map f (take k ids)) (f (get_or ids k 0) ∷ []) e))

  -- it was there to begin with
  pub listed-same : (r : Request) → Among r from → r ≡ f (get_or ids k 0) → AreAlike (requests_of mid) (from ++ map f (take (k + 1) ids))
  listed-same r a s =
      subst (AreAlike (requests_of mid)) one-more
      (alike-then (requests_of mid) (from ++ map f (take k ids)) ((from ++ map f (take k ids)) ++ f (get_or ids k 0) ∷ []) e
      (alike-own (from ++ map f (take k ids)) (f (get_or ids k 0) ∷ []) own))
    where
      own : (q : Request) → Among q (f (get_or ids k 0) ∷ []) → Among q (from ++ map f (take k ids))
      own q m = subst (λ y. Among y (from ++ map f (take k ids))) (s ∙ sym (only q (f (get_or ids k 0)) m)) (among-left r from (map f (take k ids)) a)

-- the readings that move a lane

both : (a b : Bool) → (a && b) ≡ true → (a ≡ true) × (b ≡ true)
both true b e = (refl, e)
both false b e = absurd (cc)

is-lane : (l : ℕ) (o : Option ℕ) → is_some_number l o ≡ true → o ≡ Some l
is-lane l None e = absurd (cc)
is-lane l (Some x) e = ap Some (eqb-true x l e)

pub move-is : (id l : ℕ) (r : LaneUse) → is_move id l r ≡ true → r ≡ reading id (Some l)
move-is id l r e =
    let z = both (nat_eq r.id id) (is_some_number l r.into) e in
    let p : r.id ≡ id = eqb-true r.id id z.0 in
    let q : r.into ≡ Some l = is-lane l r.into z.1 in
    λ i. record { id = p i; into = q i }

move-passes : (id l : ℕ) → is_move id l (reading id (Some l)) ≡ true
move-passes id l = ap (λ b. b && nat_eq l l) (eq-eqb id id refl) ∙ eq-eqb l l refl

module _ (slots : Numbers) (flow : List BlockFlow) (rows : List LaneRange) where
  -- what is listed leads to the piece

  exit-in : (l x b : ℕ) (r : Request) → Among b (predecessors flow x) → Among r (exit_needs slots rows l x b (terminators flow b)) → IsNeed slots flow rows (l, x, 0) r
  exit-in l x b r a m = go (among-cases r (end_need rows l x b) (map (exit_need slots rows l x b) (terminators flow b)) m)
    where
      go : (r ≡ end_need rows l x b) ⊎ Among r (map (exit_need slots rows l x b) (terminators flow b)) → IsNeed slots flow rows (l, x, 0) r
      go (inl e) = subst (IsNeed slots flow rows (l, x, 0)) (sym e) (need_end a)
      go (inr c) = let z = among-map (exit_need slots rows l x b) r (terminators flow b) c in subst (IsNeed slots flow rows (l, x, 0)) (sym z.2) (need_exit a z.1)

  move-in : (l b n : ℕ) (o : Option (ℕ × ℕ)) (r : Request) → moved_in (rows_seen rows l b) n ≡ o → Among r (move_needs slots rows l b o) → IsNeed slots flow rows (l, b, n) r
  move-in l b n None r e m = absurd (none-among r m)
  move-in l b n (Some q) r e m = go (list_any (is_move q.0 l) readings) refl m
    where
      readings : List LaneUse
      readings = readings_in (rows_seen rows q.1 b) (piece_in_rows slots rows q.1 b (entry_rank slots q.0))

      go : (t : Bool) → list_any (is_move q.0 l) readings ≡ t → Among r (cond t (move_need slots rows b q.0 q.1 ∷ []) []) → IsNeed slots flow rows (l, b, n) r
      go true f c = here' (among-cases r (move_need slots rows b q.0 q.1) [] c)
        where
          here' : (r ≡ move_need slots rows b q.0 q.1) ⊎ Among r [] → IsNeed slots flow rows (l, b, n) r
          here' (inl g) =
              let z = any-among (is_move q.0 l) readings f in
              let there' : Among (reading q.0 (Some l)) readings = subst (λ d. Among d readings) (move-is q.0 l z.0 z.2) z.1 in
              subst (IsNeed slots flow rows (l, b, n)) (sym g) (need_move e there')
          here' (inr d) = absurd (none-among r d)
      go false f c = absurd (none-among r c)

  listed-leads : (l b n : ℕ) (r : Request) → Among r (needs_of slots flow rows l b n) → IsNeed slots flow rows (l, b, n) r
  listed-leads l b zero r m = let z = among-flat (λ x. exit_needs slots rows l b x (terminators flow x)) r (predecessors flow b) m in exit-in l b z.0 r z.1 z.2
  listed-leads l b (suc k) r m = move-in l b (suc k) (moved_in (rows_seen rows l b) (suc k)) r refl m

  -- what leads to the piece is listed

  move-listed : (l b n a id : ℕ) → moved_in (rows_seen rows l b) n ≡ Some (id, a) → Among (reading id (Some l)) (readings_in (rows_seen rows a b) (piece_in_rows slots rows a b (entry_rank slots id))) → Among (move_need slots rows b id a) (needs_of slots flow rows l b n)
  move-listed l b zero a id e m = absurd (cc)
  move-listed l b (suc k) a id e m =
      let some : list_any (is_move id l) (readings_in (rows_seen rows a b) (piece_in_rows slots rows a b (entry_rank slots id))) ≡ true = among-any (is_move id l) (reading id (Some l)) (readings_in (rows_seen rows a b) (piece_in_rows slots rows a b (entry_rank slots id))) m (move-passes id l) in
      let own : Among (move_need slots rows b id a) (move_needs slots rows l b (Some (id, a))) = subst (λ t. Among (move_need slots rows b id a) (cond t (move_need slots rows b id a ∷ []) [])) (sym some) here in
      subst (λ o. Among (move_need slots rows b id a) (move_needs slots rows l b o)) (sym e) own

  leads-listed : {m : Node} {r : Request} → IsNeed slots flow rows m r → Among r (needs_of slots flow rows m.0 m.1 m.2)
  leads-listed (need_end {l = l} {b = b} {x = x} a) = flat-among (λ y. exit_needs slots rows l x y (terminators flow y)) (end_need rows l x b) b (predecessors flow x) a here
  leads-listed (need_exit {l = l} {b = b} {x = x} {id = id} a i) = flat-among (λ y. exit_needs slots rows l x y (terminators flow y)) (exit_need slots rows l x b id) b (predecessors flow x) a (there (map-among (exit_need slots rows l x b) id (terminators flow b) i))
  leads-listed (need_move {l = l} {b = b} {n = n} {a = a} {id = id} e m) = move-listed l b n a id e m

  pub needs-are : (l b n : ℕ) (needs : List Need) → AreAlike (requests_of needs) (needs_of slots flow rows l b n) → AreNeedsOf slots flow rows (l, b, n) needs
  needs-are l b n needs e = record {
    each = λ r m. listed-leads l b n r ((e r).0 m);
    whole = λ r m. (e r).1 (leads-listed m);
  }

  -- of a piece that begins with its block
  pub needs-first : (l b n : ℕ) (from to : List Need) → n ≡ 0 → from ≡ [] → AreAlike (requests_of to) (requests_of from ++ needs_before slots flow rows l b) → AreNeedsOf slots flow rows (l, b, n) to
  needs-first l b n from to z none e =
      needs-are l b n to (subst (AreAlike (requests_of to)) (ap (λ q. requests_of q ++ needs_before slots flow rows l b) none ∙ ap (needs_of slots flow rows l b) (sym z)) e)

  -- and of another one
  pub needs-later : (l b n : ℕ) (from to : List Need) → (n ≡ 0 → ⊥) → from ≡ [] → requests_of to ≡ requests_of from ++ move_needs slots rows l b (moved_in (rows_seen rows l b) n) → AreNeedsOf slots flow rows (l, b, n) to
  needs-later l b zero from to z none e = absurd (z refl)
  needs-later l b (suc k) from to z none e =
      needs-are l b (suc k) to (alike-equal (requests_of to) (needs_of slots flow rows l b (suc k)) (e ∙ ap (λ q. requests_of q ++ move_needs slots rows l b (moved_in (rows_seen rows l b) (suc k))) none))
