-- A lane that no owner has as its number is entered nowhere.
use Rattle.std.proofs.Common.{◌≡◌, ◌<◌, ◌≤◌, ℕ, suc, Bool, true, false, cond, ◌&&◌, ◌||◌, length, List, [], ◌∷◌, ◌++◌, map, Option, None, Some, refl, sym, ap, ◌∙◌, arith, eqb-true, ⊎_elim}
use Rattle.std.specs.Prelude.{nat_eq, slice_get, filter_map, option_and_then}
use Rattle.std.specs.List.{cons_option, list_any}
use Rattle.std.proofs.lemmas.Bool.{cases_lt}
use Rattle.std.proofs.lemmas.Option.{slice_get_within, slice_get_past}
use Rattle.target_base.specs.declared.types.Target.{Target}
use Rattle.mir_func.specs.declared.func.RegOp.{RegOp}
use Rattle.mir_func.specs.declared.func.Block.{Block}
use Rattle.mir_func.specs.declared.func.Instr.{Instr}
use Rattle.mir_func.specs.Value.{Function}
use Rattle.instr_effects.specs.declared.acts.Act.{Act}
use Rattle.instr_effects.specs.declared.lanes.LaneTable.{LaneTable}
use Rattle.instr_effects.specs.declared.owner.Owner.{Owner}
use Rattle.instr_effects.specs.Acts.{acts_of, read_owners, use_owners, entered_reads, entered_writes}
use Rattle.instr_effects.specs.Ends.{end_uses}
use Rattle.instr_effects.specs.Numbered.{number_in, IsTable}
use Rattle.instr_effects.specs.Steps.{Numbering, writing, act_writings, is_unnumbered, act_readings, phi_read_of}
use Rattle.live_lanes.specs.declared.row.LaneRange.{LaneRange}
use Rattle.mir_meaning.specs.Paths.{has, is_some_number}
use Rattle.live_lanes.specs.Table.{Seen, unseen, seen_in, with_reading, with_segment, read_at_end}
use Rattle.live_lanes.specs.Entered.{reading, rows_seen}
use Rattle.live_lanes.specs.Entering.{at_spot, reads_entered, moves_entered, writes_entered, source_entered, ends_entered, is_end_read, step_entered, block_entered, blocks_entered, Enters}
use Rattle.live_lanes.specs.Coded.{entries}
use Rattle.live_lanes.specs.Doing.{doing_of}
use Rattle.live_lanes.proofs.Filled.{ends}
use Rattle.live_lanes.proofs.Flowing.{has-both}

-- no owner has the number
abbrev pub Free : Numbering → ℕ → Type 0
Free num l = (o : Owner) → num o ≡ Some l → ⊥

head-other : (l x : ℕ) (xs : List ℕ) → has l (x ∷ xs) ≡ false → nat_eq x l ≡ false
head-other l x xs e = go (nat_eq x l) e
  where
    go : (t : Bool) → cond t true (has l xs) ≡ false → t ≡ false
    go true e = absurd (cc)
    go false e = refl

tail-other : (l x : ℕ) (xs : List ℕ) → has l (x ∷ xs) ≡ false → has l xs ≡ false
tail-other l x xs e = go (nat_eq x l) e
  where
    go : (t : Bool) → cond t true (has l xs) ≡ false → has l xs ≡ false
    go true e = absurd (cc)
    go false e = e

other-spot : (l b lane block : ℕ) (g : Seen → Seen) (v : Seen) → nat_eq lane l ≡ false → at_spot lane block g l b v ≡ v
other-spot l b lane block g v e = ap (λ t. cond (t && nat_eq block b) (g v) v) e

reads-other : (l b block id : ℕ) (xs : List ℕ) (v : Seen) → has l xs ≡ false → reads_entered block id xs l b v ≡ v
reads-other l b block id [] v e = refl
reads-other l b block id (x ∷ xs) v e = ap (λ u. reads_entered block id xs l b u) (other-spot l b x block (with_reading (reading id None)) v (head-other l x xs e)) ∙ reads-other l b block id xs v (tail-other l x xs e)

module _ (num : Numbering) (l : ℕ) (free : Free num l) where
  not-number : (o : Owner) (n : ℕ) → num o ≡ Some n → nat_eq n l ≡ false
  not-number o n e = go (nat_eq n l) refl
    where
      go : (t : Bool) → nat_eq n l ≡ t → t ≡ false
      go true f = let same : n ≡ l = eqb-true n l f in absurd (free o (e ∙ ap Some same))
      go false f = refl

  numbers-free : (os : List Owner) → has l (filter_map num os) ≡ false
  numbers-free [] = refl
  numbers-free (o ∷ os) = go (num o) refl (numbers-free os)
    where
      go : (q : Option ℕ) → num o ≡ q → has l (filter_map num os) ≡ false → has l (cons_option q (filter_map num os)) ≡ false
      go None f h = h
      go (Some n) f h = ap (λ t. cond t true (has l (filter_map num os))) (not-number o n f) ∙ h

  source-free : (q : Option Owner) → is_some_number l (option_and_then num q) ≡ false
  source-free None = refl
  source-free (Some o) = go (num o) refl
    where
      go : (q : Option ℕ) → num o ≡ q → is_some_number l q ≡ false
      go None f = refl
      go (Some n) f = not-number o n f

  readings-free : (acts : List Act) → has l (act_readings num acts) ≡ false
  readings-free [] = refl
  readings-free (a ∷ acts) = go (is_unnumbered (num a.lane)) (readings-free acts)
    where
      by : (q : Option ℕ) → is_some_number l q ≡ false → has l (act_readings num acts) ≡ false → has l (cons_option q (act_readings num acts)) ≡ false
      by None e h = h
      by (Some n) e h = ap (λ t. cond t true (has l (act_readings num acts))) e ∙ h

      go : (t : Bool) → has l (act_readings num acts) ≡ false → has l (cons_option (cond t (option_and_then num a.from) None) (act_readings num acts)) ≡ false
      go true h = by (option_and_then num a.from) (source-free a.from) h
      go false h = h

  moves-free : (b block id : ℕ) (acts : List Act) (v : Seen) → moves_entered block id (act_writings num acts) l b v ≡ v
  moves-free b block id [] v = refl
  moves-free b block id (a ∷ acts) v = go (num a.lane) (λ u. moves-free b block id acts u)
    where
      by : (to : ℕ) (q : Option ℕ) → is_some_number l q ≡ false → source_entered block id l b to q v ≡ v
      by to None e = refl
      by to (Some n) e = other-spot l b n block (with_reading (reading id (Some to))) v e

      go : (q : Option ℕ) → ((u : Seen) → moves_entered block id (act_writings num acts) l b u ≡ u)
          → moves_entered block id (cons_option (elim q [ None ↦ None | Some n ↦ Some (writing num a n) ]) (act_writings num acts)) l b v ≡ v
      go None h = h v
      go (Some n) h = ap (λ u. moves_entered block id (act_writings num acts) l b u) (by n (option_and_then num a.from) (source-free a.from)) ∙ h v

  writes-free : (b block id : ℕ) (acts : List Act) (v : Seen) → writes_entered block id (act_writings num acts) l b v ≡ v
  writes-free b block id [] v = refl
  writes-free b block id (a ∷ acts) v = go (num a.lane) refl (λ u. writes-free b block id acts u)
    where
      go : (q : Option ℕ) → num a.lane ≡ q → ((u : Seen) → writes_entered block id (act_writings num acts) l b u ≡ u)
          → writes_entered block id (cons_option (elim q [ None ↦ None | Some n ↦ Some (writing num a n) ]) (act_writings num acts)) l b v ≡ v
      go None f h = h v
      go (Some n) f h = ap (λ u. writes_entered block id (act_writings num acts) l b u) (other-spot l b n block (with_segment id a.early (option_and_then num a.from)) v (not-number a.lane n f)) ∙ h v

  ends-free : (t : Target) (f : Function) (place : ℕ → Option ℕ) (b : ℕ) (ps : List (RegOp × ℕ)) → list_any (is_end_read place l b) (map (phi_read_of t f num) ps) ≡ false
  ends-free t f place b [] = refl
  ends-free t f place b (p ∷ ps) = ap (λ u. u || list_any (is_end_read place l b) (map (phi_read_of t f num) ps)) (go (place p.1)) ∙ ends-free t f place b ps
    where
      go : (q : Option ℕ) → elim q [ None ↦ false | Some n ↦ has l (filter_map num (use_owners t f p.0)) && nat_eq n b ] ≡ false
      go None = refl
      go (Some n) = ap (λ u. u && nat_eq n b) (numbers-free (use_owners t f p.0))

  step-free : (t : Target) (f : Function) (place : ℕ → Option ℕ) (block b : ℕ) (i : Instr) (v : Seen) → step_entered place block l b (doing_of t f num i) v ≡ v
  step-free t f place block b i v =
      let reads : has l (filter_map num (read_owners (entered_reads t f i)) ++ act_readings num (acts_of (entered_writes t f i))) ≡ false = has-both l (filter_map num (read_owners (entered_reads t f i))) (act_readings num (acts_of (entered_writes t f i))) ∙ ap (λ u. u || has l (act_readings num (acts_of (entered_writes t f i)))) (numbers-free (read_owners (entered_reads t f i))) ∙ readings-free (acts_of (entered_writes t f i)) in
      let d = doing_of t f num i in
      ap (λ u. ends_entered place d.1 l b (writes_entered block d.0.id d.0.writes l b (moves_entered block d.0.id d.0.writes l b u))) (reads-other l b block d.0.id d.0.reads v reads)
      ∙ ap (λ u. ends_entered place d.1 l b (writes_entered block d.0.id d.0.writes l b u)) (moves-free b block d.0.id (acts_of (entered_writes t f i)) v)
      ∙ ap (λ u. ends_entered place d.1 l b u) (writes-free b block d.0.id (acts_of (entered_writes t f i)) v)
      ∙ ends place l b d.1 v ∙ ap (λ u. cond u (read_at_end v) v) (ends-free t f place b (end_uses t i))

  block-free : (t : Target) (f : Function) (place : ℕ → Option ℕ) (block b : ℕ) (is : List Instr) (v : Seen) → block_entered place block (map (doing_of t f num) is) l b v ≡ v
  block-free t f place block b [] v = refl
  block-free t f place block b (i ∷ is) v = ap (λ u. block_entered place block (map (doing_of t f num) is) l b u) (step-free t f place block b i v) ∙ block-free t f place block b is v

  pub blocks-free : (t : Target) (f : Function) (place : ℕ → Option ℕ) (n b : ℕ) (bs : List Block) (v : Seen) → blocks_entered place n (entries (doing_of t f num) bs) l b v ≡ v
  blocks-free t f place n b [] v = refl
  blocks-free t f place n b (c ∷ bs) v = ap (λ u. blocks_entered place (suc n) (entries (doing_of t f num) bs) l b u) (block-free t f place n b c.instrs v) ∙ blocks-free t f place (suc n) b bs v

-- all lanes, those that have no row too
pub seen-all : (t : Target) (f : Function) (tab : LaneTable) (place : ℕ → Option ℕ) (bs : List Block) (old new : List LaneRange) → length old ≡ length tab.owners.items → ((l b : ℕ) → rows_seen old l b ≡ unseen) → Enters old new (blocks_entered place 0 (entries (doing_of t f (number_in tab)) bs)) → IsTable tab
    → (l b : ℕ) → rows_seen new l b ≡ blocks_entered place 0 (entries (doing_of t f (number_in tab)) bs) l b unseen
seen-all t f tab place bs old new long none entered table l b = ⊎_elim within past (cases_lt l (length old))
  where
    within : l < length old → rows_seen new l b ≡ blocks_entered place 0 (entries (doing_of t f (number_in tab)) bs) l b unseen
    within h = entered.seen l b h ∙ ap (λ v. blocks_entered place 0 (entries (doing_of t f (number_in tab)) bs) l b v) (none l b)

    past : length old ≤ l → rows_seen new l b ≡ blocks_entered place 0 (entries (doing_of t f (number_in tab)) bs) l b unseen
    past h =
        let free : Free (number_in tab) l = λ o e. (let at : l < length tab.owners.items = slice_get_within tab.owners.items l o (table.owned o l e) in absurd (omega (arith, at, long, h))) in
        let gone : slice_get new l ≡ None = slice_get_past new l (omega (arith, entered.lanes, h)) in
        ap (λ q. elim q [ None ↦ unseen | Some r ↦ seen_in r.cells.items b ]) gone ∙ sym (blocks-free (number_in tab) l free t f place 0 b bs unseen)
