-- Reasons that count, as they are looked for.
use Rattle.std.proofs.Common.{◌≡◌, inl, inr, ℕ, Bool, true, false, cond, ◌&&◌, nat_eq, length, List, Option, None, Some, reverse, refl, sym, ap, ◌∙◌, subst, eqb-true, eq-eqb}
use Rattle.std.specs.Prelude.{find, IfSome, option_map, option_copied}
use Rattle.std.specs.Borrow.{Bor}
use Rattle.mir_meaning.specs.Paths.{Among}
use Rattle.live_lanes.specs.declared.compute.flow.BlockFlow.{BlockFlow}
use Rattle.live_lanes.specs.declared.row.Cause.{Cause}
use Rattle.live_lanes.specs.declared.row.Cause.TheVariants as reasons
use Rattle.live_lanes.specs.declared.row.LaneRange.{LaneRange}
use Rattle.live_lanes.specs.declared.row.LaneUse.{LaneUse}
use Rattle.live_lanes.specs.Graph.{is_live}
use Rattle.live_lanes.specs.Ways.{successors}
use Rattle.live_lanes.specs.Table.{Numbers, Seen, exit_rank, readings_in, is_certain, cause_of, certain_cause}
use Rattle.live_lanes.specs.Entered.{reading, rows_seen, causes}
use Rattle.live_lanes.specs.Growth.{piece_in_rows}
use Rattle.live_lanes.specs.Lasting.{shapes, piece_of}
use Rattle.live_lanes.proofs.Lasting.{piece-shape}
use Rattle.edit_laws.specs.Asked.{IsFound, found_phi, found_reading, found_move, found_exit, found_end}
use Rattle.edit_laws.specs.Chains.{Node}
use Rattle.live_edits.specs.Leading.{moves_on}
use Rattle.live_edits.specs.Updated.{LastsToExit}
use Rattle.live_edits.proofs.AskMembers.{find-some, find-none, among-reverse, reverse-among}

clash : (b : Bool) → b ≡ true → b ≡ false → ⊥
clash b t f = let z : true ≡ false = sym t ∙ f in cc

pub copied-is : {T : Type 0} (o : Option (Bor T)) → option_copied o ≡ option_map (λ x. x.now) o
copied-is None = refl
copied-is (Some x) = refl

-- a reading that is moved to where it is live, as it is looked up
pub moved-on : (slots : Numbers) (rows : List LaneRange) (b : ℕ) (r : LaneUse) (a : ℕ) (t : Bool) → r.into ≡ Some a → t ≡ is_live (causes rows a b (piece_of slots (exit_rank slots r.id) (shapes rows a b))) → t ≡ moves_on slots rows b r
moved-on slots rows b r a t e f =
    f
    ∙ (ap (λ n. is_live (causes rows a b n)) (sym (piece-shape slots (exit_rank slots r.id) (rows_seen rows a b)))
    ∙ ap (λ (o : Option ℕ). elim o [ None ↦ false | Some k ↦ is_live (causes rows k b (piece_in_rows slots rows k b (exit_rank slots r.id))) ]) (sym e))

-- a reading that needs no other lane

no-lane : (id : ℕ) (o : Option ℕ) → is_certain (reading id o) ≡ true → o ≡ None
no-lane id None e = refl
no-lane id (Some a) e = absurd (cc)

certain-is : (r : LaneUse) → is_certain r ≡ true → r ≡ reading r.id None
certain-is r e = let z = no-lane r.id r.into e in λ i. record { id = r.id; into = z i }

module _ (slots : Numbers) (flow : List BlockFlow) (rows : List LaneRange) where
  -- a block that follows

  abbrev Followed : Node → ℕ → Type 0
  Followed n x = LastsToExit slots flow rows n × Among x (successors flow n.1) × (is_live (causes rows n.0 x 0) ≡ true)

  follower-of : {n : Node} {c : Cause} → IsFound slots flow rows n c → (x : ℕ) → c ≡ reasons.Follower x → Followed n x
  follower-of (found_phi e) x g = absurd (let z : reasons.Phi ≡ reasons.Follower x = g in cc)
  follower-of (found_reading {id = id} m) x g = absurd (let z : reasons.Reading id ≡ reasons.Follower x = g in cc)
  follower-of (found_move {id = id} m live) x g = absurd (let z : reasons.Reading id ≡ reasons.Follower x = g in cc)
  follower-of (found_exit {l = l} {b = b} {x = y} {id = id} i a live) x g =
      let z : reasons.Follower y ≡ reasons.Follower x = g in
      let same : y ≡ x = cc in
      (inr (id, i, refl), subst (λ t. Among t (successors flow b)) same a, ap (λ t. is_live (causes rows l t 0)) (sym same) ∙ live)
  follower-of (found_end {l = l} {b = b} {x = y} a live) x g =
      let z : reasons.Follower y ≡ reasons.Follower x = g in
      let same : y ≡ x = cc in
      (inl refl, subst (λ t. Among t (successors flow b)) same a, ap (λ t. is_live (causes rows l t 0)) (sym same) ∙ live)

  of-follower : (l b k x : ℕ) → LastsToExit slots flow rows (l, b, k) → Among x (successors flow b) → is_live (causes rows l x 0) ≡ true → IsFound slots flow rows (l, b, k) (reasons.Follower x)
  of-follower l b k x (inl e) a live = subst (λ m. IsFound slots flow rows (l, b, m) (reasons.Follower x)) e (found_end a live)
  of-follower l b k x (inr z) a live = subst (λ m. IsFound slots flow rows (l, b, m) (reasons.Follower x)) z.2 (found_exit z.1 a live)

  pub follower-found : (l b k : ℕ) (o : Option ℕ) → LastsToExit slots flow rows (l, b, k) → o ≡ find (λ x. is_live (causes rows l x 0)) (successors flow b) → IfSome o (λ x. IsFound slots flow rows (l, b, k) (reasons.Follower x))
  follower-found l b k None exit e = tt
  follower-found l b k (Some x) exit e =
      let z = find-some (λ y. is_live (causes rows l y 0)) x (successors flow b) (sym e) in
      of-follower l b k x exit z.0 z.1

  pub none-follows : (l b k : ℕ) (o : Option ℕ) → o ≡ find (λ x. is_live (causes rows l x 0)) (successors flow b) → o ≡ None → (x : ℕ) → IsFound slots flow rows (l, b, k) (reasons.Follower x) → ⊥
  none-follows l b k o e none x f =
      let z = follower-of f x refl in
      clash (is_live (causes rows l x 0)) z.2 (find-none (λ y. is_live (causes rows l y 0)) x (successors flow b) (sym e ∙ none) z.1)

  -- a reading that needs no other lane, or a phi's

  certain-reading : (l b n : ℕ) (o : Option LaneUse) → find is_certain (reverse (readings_in (rows_seen rows l b) n)) ≡ o → is_live (cause_of o) ≡ true → IsFound slots flow rows (l, b, n) (cause_of o)
  certain-reading l b n None e live = absurd (cc)
  certain-reading l b n (Some r) e live =
      let z = find-some is_certain r (reverse (readings_in (rows_seen rows l b) n)) e in
      found_reading (subst (λ d. Among d (readings_in (rows_seen rows l b) n)) (certain-is r z.1) (among-reverse r (readings_in (rows_seen rows l b) n) z.0))

  certain-there : (l b n : ℕ) (t u : Bool) → (rows_seen rows l b).is_read_last ≡ t → nat_eq n (length (rows_seen rows l b).segments) ≡ u → is_live (cond (t && u) reasons.Phi (cause_of (find is_certain (reverse (readings_in (rows_seen rows l b) n))))) ≡ true → IsFound slots flow rows (l, b, n) (cond (t && u) reasons.Phi (cause_of (find is_certain (reverse (readings_in (rows_seen rows l b) n)))))
  certain-there l b n true true e f live = subst (λ m. IsFound slots flow rows (l, b, m) reasons.Phi) (sym (eqb-true n (length (rows_seen rows l b).segments) f)) (found_phi e)
  certain-there l b n true false e f live = certain-reading l b n (find is_certain (reverse (readings_in (rows_seen rows l b) n))) refl live
  certain-there l b n false u e f live = certain-reading l b n (find is_certain (reverse (readings_in (rows_seen rows l b) n))) refl live

  pub certain-found : (l b n : ℕ) (c : Cause) → c ≡ certain_cause (rows_seen rows l b) n → is_live c ≡ true → IsFound slots flow rows (l, b, n) c
  certain-found l b n c e live = subst (IsFound slots flow rows (l, b, n)) (sym e) (certain-there l b n (rows_seen rows l b).is_read_last (nat_eq n (length (rows_seen rows l b).segments)) refl refl (ap is_live (sym e) ∙ live))

  -- a reading that is moved on

  moves-into : (l b n id : ℕ) (o : Option ℕ) → Among (reading id o) (readings_in (rows_seen rows l b) n) → moves_on slots rows b (reading id o) ≡ true → IsFound slots flow rows (l, b, n) (reasons.Reading id)
  moves-into l b n id None m e = absurd (cc)
  moves-into l b n id (Some a) m e = found_move m e

  moved-reading : (l b n : ℕ) (o : Option LaneUse) → find (moves_on slots rows b) (readings_in (rows_seen rows l b) n) ≡ o → is_live (cause_of o) ≡ true → IsFound slots flow rows (l, b, n) (cause_of o)
  moved-reading l b n None e live = absurd (cc)
  moved-reading l b n (Some r) e live =
      let z = find-some (moves_on slots rows b) r (readings_in (rows_seen rows l b) n) e in
      moves-into l b n r.id r.into z.0 z.1

  pub moved-found : (l b n : ℕ) (c : Cause) → c ≡ cause_of (find (moves_on slots rows b) (readings_in (rows_seen rows l b) n)) → is_live c ≡ true → IsFound slots flow rows (l, b, n) c
  moved-found l b n c e live = subst (IsFound slots flow rows (l, b, n)) (sym e) (moved-reading l b n (find (moves_on slots rows b) (readings_in (rows_seen rows l b) n)) refl (ap is_live (sym e) ∙ live))

  -- nothing is found

  no-cause : (o : Option LaneUse) → is_live (cause_of o) ≡ false → o ≡ None
  no-cause None e = refl
  no-cause (Some r) e = absurd (cc)

  -- no reading is certain
  abbrev Uncertain : Node → Type 0
  Uncertain n = is_live (certain_cause (rows_seen rows n.0 n.1) n.2) ≡ false

  phi-certain : (l b : ℕ) → (rows_seen rows l b).is_read_last ≡ true → Uncertain (l, b, length (rows_seen rows l b).segments) → ⊥
  phi-certain l b e none =
      let v : Seen = rows_seen rows l b in
      let n = length v.segments in
      let p : (v.is_read_last && nat_eq n n) ≡ true = ap (λ t. t && nat_eq n n) e ∙ eq-eqb n n refl in
      clash (is_live (certain_cause v n)) (ap (λ t. is_live (cond t reasons.Phi (cause_of (find is_certain (reverse (readings_in v n)))))) p) none

  reading-certain : (l b n id : ℕ) → Among (reading id None) (readings_in (rows_seen rows l b) n) → Uncertain (l, b, n) → ⊥
  reading-certain l b n id m none = go ((rows_seen rows l b).is_read_last && nat_eq n (length (rows_seen rows l b).segments)) none
    where
      go : (p : Bool) → is_live (cond p reasons.Phi (cause_of (find is_certain (reverse (readings_in (rows_seen rows l b) n))))) ≡ false → ⊥
      go true e = cc
      go false e =
          let miss = no-cause (find is_certain (reverse (readings_in (rows_seen rows l b) n))) e in
          let z : true ≡ false = find-none is_certain (reading id None) (reverse (readings_in (rows_seen rows l b) n)) miss (reverse-among (reading id None) (readings_in (rows_seen rows l b) n) m) in
          cc

  move-found : (l b n id a : ℕ) → Among (reading id (Some a)) (readings_in (rows_seen rows l b) n) → is_live (causes rows a b (piece_in_rows slots rows a b (exit_rank slots id))) ≡ true → is_live (cause_of (find (moves_on slots rows b) (readings_in (rows_seen rows l b) n))) ≡ false → ⊥
  move-found l b n id a m live none =
      let miss = no-cause (find (moves_on slots rows b) (readings_in (rows_seen rows l b) n)) none in
      clash (is_live (causes rows a b (piece_in_rows slots rows a b (exit_rank slots id)))) live (find-none (moves_on slots rows b) (reading id (Some a)) (readings_in (rows_seen rows l b) n) miss m)

  none-of : {n : Node} {c : Cause} → IsFound slots flow rows n c → Uncertain n → ((x : ℕ) → IsFound slots flow rows n (reasons.Follower x) → ⊥) → is_live (cause_of (find (moves_on slots rows n.1) (readings_in (rows_seen rows n.0 n.1) n.2))) ≡ false → ⊥
  none-of (found_phi {l = l} {b = b} e) sure next moved = phi-certain l b e sure
  none-of (found_reading {l = l} {b = b} {n = n} {id = id} m) sure next moved = reading-certain l b n id m sure
  none-of (found_move {l = l} {b = b} {n = n} {a = a} {id = id} m live) sure next moved = move-found l b n id a m live moved
  none-of (found_exit {x = x} i a live) sure next moved = next x (found_exit i a live)
  none-of (found_end {x = x} a live) sure next moved = next x (found_end a live)

  pub none-found : (l b n : ℕ) (sure moved : Cause) → sure ≡ certain_cause (rows_seen rows l b) n → is_live sure ≡ false → ((x : ℕ) → IsFound slots flow rows (l, b, n) (reasons.Follower x) → ⊥) → moved ≡ cause_of (find (moves_on slots rows b) (readings_in (rows_seen rows l b) n)) → is_live moved ≡ false → (c : Cause) → IsFound slots flow rows (l, b, n) c → ⊥
  none-found l b n sure moved e none next f dead c found = none-of found (ap is_live (sym e) ∙ none) next (ap is_live (sym f) ∙ dead)
