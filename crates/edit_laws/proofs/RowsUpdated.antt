-- A table whose rows are brought up to date after edits is computed for the edited function.
use Rattle.std.proofs.Common.{◌≡◌, ◌⊎◌, ℕ, Bool, true, false, List, ◌++◌, Some, refl, sym, ap, ◌∙◌, subst, inl, inr, append_assoc}
use Rattle.target_base.specs.declared.types.Target.{Target}
use Rattle.mir_func.specs.Value.{Function}
use Rattle.mir_meaning.specs.Paths.{Among, Code}
use Rattle.live_lanes.specs.declared.compute.flow.BlockFlow.{BlockFlow}
use Rattle.live_lanes.specs.declared.row.Cause.{Cause}
use Rattle.live_lanes.specs.declared.row.LaneRange.{LaneRange}
use Rattle.live_lanes.specs.declared.row.PieceEnd.TheVariants as ends
use Rattle.live_lanes.specs.declared.table.Table.{Table}
use Rattle.live_lanes.specs.Graph.{is_live, IsGrown}
use Rattle.live_lanes.specs.Table.{Numbers}
use Rattle.live_lanes.specs.Entered.{causes, IsTableOf}
use Rattle.live_lanes.specs.Ends.{IsEnd, row_end, AreEnds}
use Rattle.live_lanes.specs.Laws.{AllMatched}
use Rattle.live_lanes.specs.Doing.{IsComputed}
use Rattle.live_lanes.proofs.Right.{right-law}
use Rattle.edit_laws.specs.Chains.{Node, cause_at}
use Rattle.edit_laws.specs.Kept.{code_in, IsLaidOut}
use Rattle.edit_laws.specs.LetGo.{IsUnnamed}
use Rattle.edit_laws.specs.Reasons.{IsReason, ReasonFor, Touched}
use Rattle.edit_laws.specs.RowsUpdated.{AreRowsUpdated, RowsUpdateLaw}
use Rattle.edit_laws.specs.Steps.{AreCodes}
use Rattle.edit_laws.proofs.CarriedRows.{alike, kept}
use Rattle.edit_laws.proofs.Ended.{ends-law}
use Rattle.edit_laws.proofs.LanesEdited.{empty-dead, empty-ends}
use Rattle.edit_laws.proofs.LetGo.{AreCarriedBut, AreListedBut, fewer, before, all-list, other-cause, edit-fewer, all-carried, all-listed-now, only-listed, on, holds-right, carried-over}
use Rattle.edit_laws.proofs.Needs.{entry-at, exit-at, count-is}
use Rattle.edit_laws.proofs.Others.{gone-law}
use Rattle.edit_laws.proofs.Recomputed.{among-or-not, IsLaneRecomputed, lane-ends}
use Rattle.edit_laws.proofs.Risen.{brought-up}
use Rattle.edit_laws.proofs.Turned.{turned-behind}
use Rattle.edit_laws.proofs.Unnamed.{reason-apart, grown-dead, never-ends}

module _ (touched : Touched) (old standing : Code) (slots slots' : Numbers) (ways flow : List BlockFlow) (x z y : List LaneRange) (t : IsTableOf old slots ways x) (grown : IsGrown old (causes x)) (matched : AllMatched old) (ended : AreEnds old slots x) (rows : AreRowsUpdated touched old standing slots' flow x z y) where
  abbrev lets_go : ℕ → Bool
  lets_go = rows.lets_go

  unnamed : (l : ℕ) → lets_go l ≡ true → IsUnnamed standing l
  unnamed l e = (rows.emptied l e).unnamed

  over : AreCarriedBut lets_go old standing (causes x) (causes z)
  over = record {
    unnamed = unnamed;
    dead = λ l b n e. empty-dead (rows.emptied l e) b n;
    kept = λ l b m n start e u v. (alike old standing slots slots' ways flow x z t rows.first l b (rows.copied l b e) m n start u v).0;
    live = λ l b n e live. kept old standing slots slots' ways flow x z t rows.first l b (rows.copied l b e) n live;
  }

  listed : AreListedBut lets_go touched standing rows.list
  listed l b us s vs e split h = (
    subst (λ k. Among {A = Node} (l, b, k) rows.list) (entry-at standing slots' flow z rows.first l b us s vs split) (rows.listed l b s.id e h).0,
    subst (λ k. Among {A = Node} (l, b, k) rows.list) (exit-at standing slots' flow z rows.first l b us s vs split) (rows.listed l b s.id e h).1,
  )

  pub grown-now : IsGrown standing (causes y)
  grown-now =
      (brought-up touched standing (causes z) rows.between (causes y) rows.list (rows.list ++ rows.fallen) ((rows.list ++ rows.fallen) ++ rows.risen) rows.queue
      (on touched old standing slots slots' (causes x) (causes z) lets_go grown t.numbered rows.table.numbered rows.edited over rows.list listed rows.table.matched)
      (holds-right touched old standing slots slots' (causes x) (causes z) lets_go grown t.numbered rows.table.numbered rows.edited over rows.list listed rows.table.matched)
      (carried-over touched old standing slots slots' (causes x) (causes z) lets_go grown t.numbered rows.table.numbered rows.edited over rows.list listed rows.table.matched)
      rows.falls rows.asks rows.rises rows.table.matched).grown

  -- ends of lanes that are let go

  right-again : (n : Node) → Among n rows.again → IsEnd standing slots' (causes y) n.0 n.1 n.2 (row_end y n.0 n.1 n.2)
  right-again n a = subst (IsEnd standing slots' (causes y) n.0 n.1 n.2) (sym (rows.ended n a)) (right-law standing slots' flow y rows.table rows.outward grown-now n.0 n.1 n.2)

  gone-ends : (l b n : ℕ) → lets_go l ≡ true → IsEnd standing slots' (causes y) l b n (row_end y l b n)
  gone-ends l b n e = go (among-or-not (l, b, n) rows.again)
    where
      go : Among {A = Node} (l, b, n) rows.again ⊎ (Among {A = Node} (l, b, n) rows.again → ⊥) → IsEnd standing slots' (causes y) l b n (row_end y l b n)
      go (inl a) = right-again (l, b, n) a
      go (inr out) =
          let none : row_end y l b n ≡ ends.Never = rows.kept (l, b, n) out ∙ empty-ends (rows.emptied l e) b n in
          subst (IsEnd standing slots' (causes y) l b n) (sym none) (never-ends standing (causes y) l b n (unnamed l e) (λ k. grown-dead standing (causes y) grown-now l k 0 (unnamed l e)) slots')

  -- and of all others

  abbrev shadow : ℕ → ℕ → ℕ → Cause
  shadow = before touched old standing slots slots' (causes x) (causes z) lets_go grown t.numbered rows.table.numbered rows.edited over rows.list listed

  abbrev more : List Node
  more = all-list touched old standing slots slots' (causes x) (causes z) lets_go grown t.numbered rows.table.numbered rows.edited over rows.list listed

  leads-again : (n m : Node) (c : Cause) → ReasonFor standing n c (Some m) → (cause_at (causes y) m ≡ cause_at (causes z) m → ⊥) → Among n rows.again
  leads-again n m c reason differs =
      go (turned-behind touched standing (causes z) rows.between (causes y) rows.list rows.list (rows.list ++ rows.fallen) ((rows.list ++ rows.fallen) ++ rows.risen) (rows.fallen ++ rows.risen) rows.queue rows.falls rows.rises (append_assoc rows.list rows.fallen rows.risen) m)
    where
      go : Among m (rows.fallen ++ rows.risen) ⊎ (cause_at (causes y) m ≡ cause_at (causes z) m) → Among n rows.again
      go (inl a) = rows.with_needs m a n c reason
      go (inr e) = absurd (differs e)

  at-lane : (l : ℕ) → lets_go l ≡ false → IsLaneRecomputed old standing slots' shadow more rows.again x y l
  at-lane l e = record {
    listed = λ b n a. rows.with_list (l, b, n) (only-listed touched old standing slots slots' (causes x) (causes z) lets_go grown t.numbered rows.table.numbered rows.edited over rows.list listed (l, b, n) e a);
    leading = leading;
    right = λ b n a. right-again (l, b, n) a;
    kept = λ b m n start u v out. rows.kept (l, b, n) out ∙ (alike old standing slots slots' ways flow x z t rows.first l b (rows.copied l b e) m n start u v).1;
  }
    where
      leading : (b n : ℕ) (m : Node) (c : Cause) → IsReason standing l b n c (Some m) → (cause_at (causes y) m ≡ cause_at shadow m → ⊥) → Among {A = Node} (l, b, n) rows.again
      leading b n m c r differs =
          let other = reason-apart standing r lets_go unnamed e m refl in
          let same = other-cause touched old standing slots slots' (causes x) (causes z) lets_go grown t.numbered rows.table.numbered rows.edited over rows.list listed m.0 m.1 m.2 other in
          leads-again (l, b, n) m c r (λ f. differs (f ∙ ap is_live (sym same)))

  other-ends : (l b n : ℕ) → lets_go l ≡ false → IsEnd standing slots' (causes y) l b n (row_end y l b n)
  other-ends l b n e =
      lane-ends (fewer touched old standing slots slots' (causes x) (causes z) lets_go grown t.numbered rows.table.numbered rows.edited over rows.list listed) old standing slots slots' x y shadow more rows.again grown t.numbered rows.table.numbered matched rows.table.matched
      (edit-fewer touched old standing slots slots' (causes x) (causes z) lets_go grown t.numbered rows.table.numbered rows.edited over rows.list listed)
      (all-carried touched old standing slots slots' (causes x) (causes z) lets_go grown t.numbered rows.table.numbered rows.edited over rows.list listed)
      (all-listed-now touched old standing slots slots' (causes x) (causes z) lets_go grown t.numbered rows.table.numbered rows.edited over rows.list listed) ended l (count-is standing slots' flow y rows.table l) (at-lane l e) b n

  pub ends-now : AreEnds standing slots' y
  ends-now l b n = go (lets_go l) refl
    where
      go : (u : Bool) → lets_go l ≡ u → IsEnd standing slots' (causes y) l b n (row_end y l b n)
      go true e = gone-ends l b n e
      go false e = other-ends l b n e

module _ (t : Target) (f g : Function) (x y : Table) (z : List LaneRange) (touched : Touched) (standing : Code) (slots : Numbers) (flow : List BlockFlow) (computed : IsComputed t f x) (matched : AllMatched (code_in t f x)) (laid : IsLaidOut t g y) (rows : AreRowsUpdated touched (code_in t f x) standing slots flow x.rows.rows.items z y.rows.rows.items) (gone : AreCodes (λ l. false) standing (code_in t g y)) where
  abbrev old : Code
  old = code_in t f x

  abbrev old-rows : List LaneRange
  old-rows = x.rows.rows.items

  abbrev new-rows : List LaneRange
  new-rows = y.rows.rows.items

  table : IsTableOf old x.order.slots x.flow.items old-rows
  table = computed.table matched

  standing-grown : IsGrown standing (causes new-rows)
  standing-grown = grown-now touched old standing x.order.slots slots x.flow.items flow old-rows z new-rows table (computed.grown matched) matched (computed.ended matched) rows

  standing-ends : AreEnds standing slots new-rows
  standing-ends = ends-now touched old standing x.order.slots slots x.flow.items flow old-rows z new-rows table (computed.grown matched) matched (computed.ended matched) rows

  computed-again : IsComputed t g y
  computed-again = record {
    numbers = laid.numbers;
    positions = laid.positions;
    homes = laid.homes;
    ways = laid.ways;
    layout = laid.layout;
    numbered = laid.numbered;
    short = laid.short;
    few = laid.few;
    table = laid.table;
    grown = λ all. gone-law standing (code_in t g y) (causes new-rows) gone standing-grown;
    ended = λ all l b n. ends-law (λ l. false) standing (code_in t g y) slots y.order.slots (causes new-rows) (causes new-rows) gone rows.table.numbered (laid.table all).numbered (λ l b n o. refl) l b n refl (row_end new-rows l b n) (standing-ends l b n);
  }

pub rows-update-law : RowsUpdateLaw
rows-update-law t f g x y z touched standing slots flow computed matched laid rows gone = computed-again t f g x y z touched standing slots flow computed matched laid rows gone
