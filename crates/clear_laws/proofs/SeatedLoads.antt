-- What is loaded to tinies before a place, and what is stored of them behind it.
use Rattle.std.proofs.Common.{◌≡◌, ◌⊎◌, inl, inr, ◌∷◌, ◌∙◌, ℕ, Bool, true, false, List, length, map, refl, sym, arith, []}
use Rattle.std.proofs.lemmas.List.{length-map}
use Rattle.target_base.specs.declared.types.Target.{Target}
use Rattle.meaning.specs.Code.{Silent}
use Rattle.meaning.specs.Lanes.{Writes, filled}
use Rattle.meaning.specs.Live.{Among as Member, here as first, there as later, writes_of}
use Rattle.meaning.specs.declared.types.Fill.TheVariants.{Moved}
use Rattle.meaning.specs.declared.types.Lane.{Lane}
use Rattle.meaning.specs.declared.types.Lane.TheVariants.{VirtualLane}
use Rattle.meaning.specs.declared.types.Source.TheVariants.{FromLane}
use Rattle.mir_func.specs.declared.func.Instr.{Instr}
use Rattle.mir_func.specs.declared.func.Block.{Block}
use Rattle.mir_func.specs.Value.{Function}
use Rattle.mir_meaning.specs.Codes.{item_of}
use Rattle.mir_meaning.specs.Registers.{numbers}
use Rattle.instr_effects.proofs.Members.{map-in, map-of}
use Rattle.laws.proofs.Flow.{lane-inj}
use Rattle.lowering_laws.proofs.Traced.{filled-free, is_written, lanes_by}
use Rattle.spill_laws.specs.Seats.{Load, load_writes}
use Rattle.spill_laws.proofs.SlotWrites.{moved-lane, moved-written, write-of}
use Rattle.spill_laws.proofs.SpillItems.{numbers-long}
use Rattle.spill_laws.proofs.Standing.{unwritten as not-wrote}
use Rattle.clear_laws.proofs.PlaceBounds.{Wrote}
use Rattle.clear_laws.proofs.Seated.{silents}
use Rattle.clear_laws.proofs.SilentLists.{moved-out}

-- the writes of silent instructions, one after the other
module _ (t : Target) (g : Function) (d : Block) where
  abbrev pub writes-by : List Instr → List Writes
  writes-by js = map (λ j. writes_of (item_of t g d j)) js

  pub silent-items : (js : List Instr) → ((j : Instr) → Member j js → item_of t g d j ≡ Silent [] (writes_of (item_of t g d j))) → map (item_of t g d) js ≡ silents (writes-by js)
  silent-items [] h = refl
  silent-items (j ∷ js) h = λ k. h j first k ∷ silent-items js (λ x m. h x (later m)) k

  pub writes-of : (js : List Instr) (ws : Writes) → Member ws (writes-by js) → (j : Instr) × Member j js × (ws ≡ writes_of (item_of t g d j))
  writes-of js ws m = map-of (λ j. writes_of (item_of t g d j)) ws js m

  pub writes-in : (js : List Instr) (j : Instr) → Member j js → Member (writes_of (item_of t g d j)) (writes-by js)
  writes-in js j m = map-in (λ j. writes_of (item_of t g d j)) j js m

-- a load writes all lanes of its tiny, and no other
module _ (l : Load) where
  tiny-many : length (lanes_by l.tiny (numbers 0 (length l.sources))) ≡ length l.sources
  tiny-many = length-map (numbers 0 (length l.sources)) (VirtualLane l.tiny) ∙ numbers-long 0 (length l.sources)

  pub load-lane : (a : Lane) → Wrote (load_writes l) a → (k : ℕ) × (a ≡ VirtualLane l.tiny k)
  load-lane a z = let y = map-of (VirtualLane l.tiny) z.0.lane (numbers 0 (length l.sources)) (moved-lane l.early (lanes_by l.tiny (numbers 0 (length l.sources))) l.sources z.0 z.1) in (y.0, sym z.2 ∙ y.2)

  pub load-all : (a : Lane) → Member a (lanes_by l.tiny (numbers 0 (length l.sources))) → Wrote (load_writes l) a
  load-all a m = write-of (load_writes l) a (moved-written l.early (lanes_by l.tiny (numbers 0 (length l.sources))) l.sources a (let e = tiny-many in omega (arith, e)) m)

  pub load-given : (a b : Lane) → filled (load_writes l) a ≡ Moved (FromLane b) → ((b ≡ a) × (Wrote (load_writes l) a → ⊥)) ⊎ Member (FromLane b) l.sources
  load-given a b h = go (is_written (load_writes l) a) refl
    where
      go : (x : Bool) → is_written (load_writes l) a ≡ x → ((b ≡ a) × (Wrote (load_writes l) a → ⊥)) ⊎ Member (FromLane b) l.sources
      go true e = inr (moved-out l.early (lanes_by l.tiny (numbers 0 (length l.sources))) l.sources a b e h)
      go false e = inl (lane-inj b a (sym h ∙ filled-free (load_writes l) a e), λ z. not-wrote (load_writes l) a e z.0 z.1 z.2)
