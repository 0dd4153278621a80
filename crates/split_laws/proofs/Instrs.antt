-- The instructions and blocks of a function with a range split: renamed ones, and copies where the range is live.
use Rattle.std.proofs.Common.{◌≡◌, ◌<◌, ◌+◌, not, ◌&&◌, ℕ, zero, suc, Bool, true, false, cond, List, [], ◌∷◌, Some, None, drop, length, refl, sym, subst}
use Rattle.std.specs.Prelude.{nat_eq, slice_get}
use Rattle.target_base.specs.Numbers.{op_number}
use Rattle.meaning.specs.Live.{Among as Member, here as first, there as later}
use Rattle.mir_func.specs.declared.func.Instr.{Instr}
use Rattle.mir_func.specs.declared.func.Block.{Block}
use Rattle.mir_func.specs.Value.{Function}
use Rattle.mir_func.specs.Edits.{made}
use Rattle.mir_meaning.specs.Codes.{first_number}
use Rattle.mir_meaning.specs.Points.{Entry, Point, Start}
use Rattle.mir_meaning.specs.Renaming.{renamed_instr}
use Rattle.instr_effects.proofs.Members.{either-elim, member-elim, member-none}
use Rattle.live_lanes.specs.declared.ask.labels.Mark.{Mark}
use Rattle.live_laws.proofs.Effects.Moving.{some-same}
use Rattle.split_kit.specs.Split.{as_part, block_split, blocks_split, changed, greatest_label, instrs_split, label_behind, last_point, number_behind, part, start_label, whole}
use Rattle.split_laws.proofs.Labels.{behind-fits, start-fits}

module _ (live : Point → Bool) (f : Function) (v : ℕ) (ms : List Mark) where
  abbrev count : ℕ
  count = greatest_label ms + 1

  abbrev pub copy : ℕ → ℕ → ℕ → Instr
  copy id from to = made id (op_number 0) (whole true (part f to) ∷ whole false (part f from) ∷ [])

  -- what holds of copies and of renamed instructions holds of all
  module _ (P : Instr → Type 0) (copies : (id from to : ℕ) (p : Point) → live p ≡ true → from < count → to < count → P (copy id from to)) where
    changed-all : (id : ℕ) (p : Point) (from to : ℕ) → from < count → to < count → (x : Instr) → Member x (changed f id (live p) from to) → P x
    changed-all id p from to h k x m = go (live p) refl (nat_eq from to) m
      where
        go : (a : Bool) → live p ≡ a → (e : Bool) → Member x (cond (a && not e) (copy id from to ∷ []) []) → P x
        go true y true m = absurd (member-none x m)
        go true y false m = member-elim x (copy id from to) [] (λ q. subst P (sym q) (copies id from to p y h k)) (λ j. absurd (member-none x j)) m
        go false y e m = absurd (member-none x m)

    module _ (b : Block) (named : (i : Instr) → Member i b.instrs → (label : ℕ) → label < count → P (renamed_instr (as_part f v label) i)) where
      instrs-all : (n now : ℕ) → now < count → (is : List Instr) → ((i : Instr) → Member i is → Member i b.instrs) → (x : Instr) → Member x (instrs_split live f v ms n b now is) → P x
      instrs-all n now h [] w x m = changed-all n (last_point (Start b.number) b.instrs) now (label_behind ms b.number None now) h (behind-fits ms b.number None now h) x m
      instrs-all n now h (i ∷ is) w x m =
          let to = label_behind ms b.number (Some i.id) now in
          let fits = behind-fits ms b.number (Some i.id) now h in
          let here = changed f n (live (Entry i.id)) now to in
          let one = renamed_instr (as_part f v to) i in
          let rest = instrs_split live f v ms (n + length here) b to is in
          either-elim x here (one ∷ rest)
          (λ k. changed-all n (Entry i.id) now to h fits x k)
          (λ k. member-elim x one rest (λ e. subst P (sym e) (named i (w i first) to fits)) (λ j. instrs-all (n + length here) to fits is (λ y q. w y (later q)) x j) k)
          m

      pub block-all : (n : ℕ) (x : Instr) → Member x (block_split live f v ms n b).instrs → P x
      block-all n x m = instrs-all n (start_label ms b.number) (start-fits ms b.number) b.instrs (λ i k. k) x m

  -- each block is one of the function's, split

  pub split-of : (n : ℕ) (bs : List Block) (c : Block) → Member c (blocks_split live f v ms n bs) → (m : ℕ) × (b : Block) × Member b bs × (c ≡ block_split live f v ms m b)
  split-of n [] c m = absurd (member-none c m)
  split-of n (b ∷ bs) c m =
      member-elim c (block_split live f v ms n b) (blocks_split live f v ms (number_behind live f v ms n (b ∷ [])) bs)
      (λ e. (n, b, first, e))
      (λ k. let z = split-of (number_behind live f v ms n (b ∷ [])) bs c k in (z.0, z.1, later z.2, z.3)) m

  -- a block at a place, and the number of the block behind it
  pub record At (bs : List Block) (n k : ℕ) (c : Block) : Type 0 where
    pub from : ℕ
    pub block : Block
    pub there : slice_get bs k ≡ Some block
    pub split : c ≡ block_split live f v ms from block
    pub behind : first_number (drop (suc k) (blocks_split live f v ms n bs)) ≡ first_number (drop (suc k) bs)

  first-same : (n : ℕ) (bs : List Block) → first_number (blocks_split live f v ms n bs) ≡ first_number bs
  first-same n [] = refl
  first-same n (b ∷ bs) = refl

  pub split-at : (bs : List Block) (n k : ℕ) (c : Block) → slice_get (blocks_split live f v ms n bs) k ≡ Some c → At bs n k c
  split-at [] n k c e = absurd (cc)
  split-at (b ∷ bs) n zero c e = record { from = n; block = b; there = refl; split = sym (some-same (block_split live f v ms n b) c e); behind = first-same (number_behind live f v ms n (b ∷ [])) bs }
  split-at (b ∷ bs) n (suc k) c e = let z = split-at bs (number_behind live f v ms n (b ∷ [])) k c e in record { from = z.from; block = z.block; there = z.there; split = z.split; behind = z.behind }
