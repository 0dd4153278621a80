-- A table that is entered, grown and ended tells where lanes are live.
use Rattle.std.proofs.Common.{◌≡◌, ◌<◌, ℕ, suc, cond, Bool, true, false, List, [], ◌∷◌, Option, Some, None, length, refl, sym, ap, ◌∙◌, subst, arith}
use mathlib.Core.Path.{fun_ext}
use Rattle.std.specs.Prelude.{nat_eq, option_map}
use Rattle.target_base.specs.declared.types.Target.{Target}
use Rattle.slot_index.specs.Order.{ids, IsNumbered}
use Rattle.slot_index.specs.Renewed.{low_end}
use Rattle.mir_func.specs.declared.func.Block.{Block}
use Rattle.mir_func.specs.Value.{Function}
use Rattle.mir_meaning.specs.Points.{all_points}
use Rattle.instr_effects.specs.Steps.{Numbering}
use Rattle.live_lanes.specs.declared.compute.flow.BlockFlow.{BlockFlow}
use Rattle.live_lanes.specs.declared.row.LaneRange.{LaneRange}
use Rattle.live_lanes.specs.declared.table.Table.{Table}
use Rattle.std.specs.Ordering.{nat_cmp}
use Rattle.std.specs.BTreeMap.{get}
use Rattle.instr_effects.specs.Numbered.{number_in, NumbersAll}
use Rattle.live_lanes.specs.Graph.{is_live, IsGrown}
use Rattle.live_lanes.specs.Table.{Numbers, unseen, cause_in}
use Rattle.live_lanes.specs.Entered.{rows_seen, causes, IsTableOf}
use Rattle.live_lanes.specs.Ends.{IsEnd, row_end, AreEnds}
use Rattle.live_lanes.specs.Lasting.{AllRise, Lasts, AreOutward}
use Rattle.mir_meaning.specs.Paths.{has, Code}
use Rattle.live_lanes.specs.Entering.{blocks_entered}
use Rattle.live_lanes.specs.Ordered.{last_id, all_ids, place_of, AreSingle, AreHomes}
use Rattle.live_lanes.specs.Flowing.{AreWays}
use Rattle.live_lanes.specs.Growth.{GrowsAll}
use Rattle.live_lanes.specs.Marks.{KeepsCauses}
use Rattle.live_lanes.specs.Coded.{entries, IsMade}
use Rattle.live_lanes.specs.Doing.{doing_of, lane_code, IsComputed}
use Rattle.live_lanes.specs.Laws.{AllMatched}
use Rattle.live_lanes.proofs.Coded.{made-law}
use Rattle.live_lanes.proofs.Dead.{blocks-dead, unseen-dead}
use Rattle.live_lanes.proofs.Growth.{piece-law}
use Rattle.live_lanes.proofs.Outward.{outward}
use Rattle.live_lanes.proofs.Right.{right-law}
use Rattle.live_lanes.proofs.Risen.{block-rising}

place-below : (n : ℕ) (bs : List Block) (p : ℕ) → place_of n bs ≡ Some p → p < length bs
place-below n [] p e = absurd (cc)
place-below n (b ∷ bs) p e = go (nat_eq b.number n) e (place-below n bs)
  where
    up : (q : Option ℕ) → option_map (λ x. suc x) q ≡ Some p → ((k : ℕ) → q ≡ Some k → k < length bs) → p < suc (length bs)
    up None e ih = absurd (cc)
    up (Some k) e ih = let same : suc k ≡ p = cc in let lt : k < length bs = ih k refl in omega (arith, same, lt)

    go : (t : Bool) → cond t (Some 0) (option_map (λ x. suc x) (place_of n bs)) ≡ Some p → ((k : ℕ) → place_of n bs ≡ Some k → k < length bs) → p < suc (length bs)
    go true e ih = let same : 0 ≡ p = cc in omega (arith, same)
    go false e ih = up (place_of n bs) e ih

-- what holds of a table in the end
pub record Told (code : Code) (slots : Numbers) (flow : List BlockFlow) (rows : List LaneRange) : Type 0 where
  pub table : IsTableOf code slots flow rows
  pub grown : IsGrown code (causes rows)
  pub ended : AreEnds code slots rows

-- pieces that are grown get their ends
pub ended-told : (code : Code) (slots : Numbers) (flow : List BlockFlow) (grown ended : List LaneRange) → IsTableOf code slots flow grown → AreOutward code slots flow → IsGrown code (causes grown) → KeepsCauses grown ended
    → (AllRise slots grown → length grown < 4294967296 → (l b n : ℕ) → Lasts slots flow grown ended l b n) → Told code slots flow ended
ended-told code slots flow grown ended table out is keeps ends =
    let kept : causes grown ≡ causes ended = fun_ext (λ l. fun_ext (λ b. fun_ext (λ n. sym (keeps.causes l b n)))) in
    let rises : AllRise slots grown = piece-law code slots flow grown table in
    record {
      table = record { entered = λ l b. keeps.shapes l b ∙ table.entered l b; numbered = table.numbered; ways = table.ways; matched = table.matched; few = subst (λ n. n < 4294967296) (sym keeps.lanes) table.few };
      grown = subst (λ why. IsGrown code why) kept is;
      ended = λ l b n. subst (λ why. IsEnd code slots why l b n (row_end ended l b n)) kept (subst (λ e. IsEnd code slots (causes grown) l b n e) (sym (ends rises table.few l b n)) (right-law code slots flow grown table out is l b n));
    }

pub computed : (t : Target) (f : Function) (num : Numbering) (got : ℕ → Option ℕ) (slots : Numbers) (flow : List BlockFlow) (entered grown ended : List LaneRange)
    → ((n : ℕ) → got n ≡ place_of n f.blocks) → ids slots ≡ all_ids f.blocks → AreSingle (all_ids f.blocks) → IsNumbered slots → low_end (last_id (ids slots)) slots < 18446744073709551616 → AreWays t got f.blocks flow
    → length entered < 4294967296 → ((l b : ℕ) → rows_seen entered l b ≡ blocks_entered got 0 (entries (doing_of t f num) f.blocks) l b unseen)
    → GrowsAll slots flow entered grown → KeepsCauses grown ended → (AllRise slots grown → length grown < 4294967296 → (l b n : ℕ) → Lasts slots flow grown ended l b n)
    → AllMatched (lane_code t f num) → Told (lane_code t f num) slots flow ended
computed t f num got slots flow entered grown ended places laid single numbered small ways few seen grows keeps ends matched =
    let same : got ≡ (λ n. place_of n f.blocks) = fun_ext places in
    let made : IsMade t (doing_of t f num) (λ n. place_of n f.blocks) f.blocks slots flow entered = record {
      named = λ i. refl;
      leaving = λ i. refl;
      within = λ n p e. place-below n f.blocks p e;
      single = single;
      rising = block-rising slots f.blocks numbered small single laid;
      ways = subst (λ g. AreWays t g f.blocks flow) same ways;
      seen = λ l b. seen l b ∙ ap (λ g. blocks_entered g 0 (entries (doing_of t f num) f.blocks) l b unseen) same;
    } in
    let table = made-law t (doing_of t f num) (λ n. place_of n f.blocks) f.blocks slots flow entered made matched few in
    let dead : (l b n : ℕ) → is_live (causes entered l b n) ≡ false = λ l b n. ap (λ v. is_live (cause_in v n)) (seen l b) ∙ blocks-dead got 0 (entries (doing_of t f num) f.blocks) l b unseen unseen-dead n in
    let z = grows (lane_code t f num) table dead in
    let of-grown : IsTableOf (lane_code t f num) slots flow grown = record { entered = λ l b. z.0 l b ∙ table.entered l b; numbered = table.numbered; ways = table.ways; matched = table.matched; few = subst (λ n. n < 4294967296) (sym z.2) table.few } in
    ended-told (lane_code t f num) slots flow grown ended of-grown (outward t (doing_of t f num) (λ n. place_of n f.blocks) f.blocks slots flow entered made) z.1 keeps ends

pub is-computed : (t : Target) (f : Function) (x : Table) → NumbersAll t f x.lanes → ((n : ℕ) → get nat_cmp x.order.positions n ≡ place_of n f.blocks) → AreHomes f.blocks x.order.block_of.items → AreWays t (get nat_cmp x.order.positions) f.blocks x.flow.items → ids x.order.slots ≡ all_ids f.blocks → IsNumbered x.order.slots → ((id : ℕ) → has id (all_ids f.blocks) ≡ true → id < 4294967296) → length (all_points f) < 18446744073709551616
    → (AllMatched (lane_code t f (number_in x.lanes)) → Told (lane_code t f (number_in x.lanes)) x.order.slots x.flow.items x.rows.rows.items) → IsComputed t f x
is-computed t f x numbers positions homes ways layout numbered short few told = record { numbers = numbers; positions = positions; homes = homes; ways = subst (λ g. AreWays t g f.blocks x.flow.items) (fun_ext positions) ways; layout = layout; numbered = numbered; short = short; few = few; table = λ m. (told m).table; grown = λ m. (told m).grown; ended = λ m. (told m).ended }
