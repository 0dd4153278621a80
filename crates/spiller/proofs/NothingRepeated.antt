-- Where no instruction that touches the range can be repeated, nothing is rematerialised.
use Rattle.std.proofs.Common.{◌≡◌, ◌∙◌, ℕ, true, false, cond, ◌&&◌, List, [], ◌∷◌, Option, Some, None, filter, flat_map, length, map, refl, sym, ap, subst}
use Rattle.std.specs.Prelude.{find, nat_lt, option_map, Vec}
use Rattle.std.specs.Global.{Global}
use Rattle.std.specs.List.{list_all, list_any}
use Rattle.std.specs.Ordering.{nat_cmp}
use Rattle.std.specs.BTreeMap.{is_at}
use Rattle.std.specs.Map.{lookup}
use Rattle.target_base.specs.declared.types.Target.{Target}
use Rattle.target_base.proofs.Tests.{first_of_both, second_of_both}
use Rattle.meaning.specs.Live.{Among as Member, here as first}
use Rattle.mir_func.specs.declared.func.Instr.{Instr}
use Rattle.mir_func.specs.declared.func.Block.{Block}
use Rattle.mir_func.specs.Value.{Function}
use Rattle.mir_func.specs.Binding.{does}
use Rattle.mir_meaning.specs.Paths.{has}
use Rattle.instr_effects.proofs.Members.{filter-of, flat-in, flat-of}
use Rattle.live_lanes.specs.declared.table.Table.{Table}
use Rattle.live_lanes.specs.Touching.{AreTouched}
use Rattle.live_laws.proofs.Touch.Cells.{any-of}
use Rattle.spiller.specs.declared.plan.SpillView.{SpillView}
use Rattle.spiller.specs.declared.remat.Remat.{Remat}
use Rattle.spiller.specs.MaySpill.{MaySpill}
use Rattle.spiller.specs.Planned.{TellsRemat, copy_key, way_key}
use Rattle.spiller.specs.Reaching.{AreFacts, Facts}
use Rattle.spiller.specs.Readings.{goes_in, same_key, source_in}
use Rattle.spiller.specs.Rematerialised.{Reading, all_readings, copy_reading, if_serves, is_constant, is_needless, is_rematerialised, reaches, reaching, repeatable_class, repeated_for, serves, way_reading, whole_class}
use Rattle.spiller.specs.Setting.{Spilling}
use Rattle.spiller.specs.Spilled.{place_name}
use Rattle.spiller.specs.Views.{spilling_of}
use Rattle.spiller.proofs.ReachesTold.{reached-lane}
use Rattle.spiller.proofs.Basics.{is-false, some-member}
use Rattle.spiller.proofs.ChangeFits.{nothing-serves}
use Rattle.spiller.specs.declared.remat.RematSource.{RematSource}
use Rattle.spiller.specs.declared.remat.UseKey.{UseKey}

module _ (view : SpillView) (may : MaySpill view.target.now view.live.now.func view.live.now.table view.v) (ids : List ℕ) (are : AreTouched view.live.now.table view.v ids) (slot : ℕ) (facts : Facts) (tell : AreFacts view.target.now view.live.now.func view.v facts)
    (plain : (b : Block) (i : Instr) → Member b view.live.now.func.blocks → Member i b.instrs → has i.id ids ≡ true → does is_constant view.target.now i ≡ false) where
  abbrev s : Spilling
  s = spilling_of view slot facts

  abbrev t : Target
  t = view.target.now

  abbrev f : Function
  f = view.live.now.func

  abbrev x : Table
  x = view.live.now.table

  abbrev v : ℕ
  v = view.v

  abbrev all : List Instr
  all = flat_map (λ b. b.instrs) f.blocks

  -- an instruction that reaches a reading is no constant
  reached-plain : (d : Instr) → Member d all → (r : Reading) → reaches s d r ≡ true → does is_constant t d ≡ false
  reached-plain d m r h =
      let y = any-of (λ (i : Instr). list_any (λ k. facts.reaches d.id k i.id) r.lanes) r.by h in
      let z = any-of (λ k. facts.reaches d.id k y.0.id) r.lanes y.2 in
      let named = (reached-lane t f x v may ids are d.id z.0 y.0.id ((tell.reach (d.id, z.0, y.0.id)).0 z.2)).1 in
      let b = flat-of (λ (b : Block). b.instrs) d f.blocks m in
      plain b.0 d b.1 b.2 (are.named d.id ∙ named)

  none-repeated : (r : Reading) → repeated_for s r ≡ None
  none-repeated r = by (reaching s r) (λ d m. let z = filter-of (λ c. reaches s c r) d all m in reached-plain d z.0 r z.1)
    where
      by : (es : List Instr) → ((d : Instr) → Member d es → does is_constant t d ≡ false) → if_serves t r.wish es ≡ None
      by [] h = refl
      by (d ∷ []) h =
          let no : repeatable_class t d ≡ None = ap (λ b. cond b (whole_class t d d.operands) None) (h d first) in
          ap (λ b. cond b (Some d) None) (ap (serves t r.wish) no ∙ nothing-serves t r.wish)
      by (d ∷ c ∷ es) h = refl

  none-goes : (b : Block) (i : Instr) → Member b f.blocks → Member i b.instrs → is_needless s i ≡ false
  none-goes b i mb mi = is-false (is_needless s i) (λ h.
      let rs = filter (reaches s i) (all_readings s) in
      let constant = first_of_both (does is_constant t i) (nat_lt 0 (length rs)) (first_of_both (does is_constant t i && nat_lt 0 (length rs)) (list_all (is_rematerialised s) rs) h) in
      let some = second_of_both (does is_constant t i) (nat_lt 0 (length rs)) (first_of_both (does is_constant t i && nat_lt 0 (length rs)) (list_all (is_rematerialised s) rs) h) in
      let r = some-member rs some in
      let m = filter-of (reaches s i) r.0 (all_readings s) r.1 in
      let z : true ≡ false = sym constant ∙ reached-plain i (flat-in (λ (c : Block). c.instrs) i b f.blocks mb mi) r.0 m.1 in
      cc)

  no-source : (r : Remat) → r.sources.entries ≡ [] → (key : UseKey) → source_in r key ≡ None
  no-source r sources key =
      ap (λ es. option_map (λ (s : RematSource). s.id) (find (λ (s : RematSource). same_key key s.key)
      (elim (lookup {X = Vec RematSource Global} (is_at (nat_cmp key.at)) es) as (λ q. List RematSource) [ None ↦ [] | Some list ↦ list.items ]))) sources

  pub tells-nothing : (r : Remat) → r.sources.entries ≡ [] → r.deleted.keys ≡ [] → TellsRemat s (source_in r) (goes_in r)
  tells-nothing r sources deleted = record {
    ways = λ b p y mb mp moves my. no-source r sources (way_key (place_name p) y) ∙ sym (ap (option_map (λ (d : Instr). d.id)) (none-repeated (way_reading s p y)));
    copies = λ b i d o mb mi effect is own. no-source r sources (copy_key i.id) ∙ sym (ap (option_map (λ (d : Instr). d.id)) (none-repeated (copy_reading s i d o)));
    gone = λ b i mb mi. ap (has i.id) deleted ∙ sym (none-goes b i mb mi);
  }
