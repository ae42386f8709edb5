use Rattle.std.proofs.Common.{ℕ, List, ◌<◌, ◌≤◌, ◌≡◌, ◌+◌, ◌*◌, ◌++◌, length, sym, ap, ap₂, ◌∙◌, subst, arith}
use Rattle.game_theory.specs.Profiles.{profile_count, number_of, stride}
use Rattle.game_core.specs.Table.{strategy_counts, most_payoffs}
use Rattle.convert_tables.specs.Layouts.{cell_text, cells_text, cell_number, strategy_count, strategy_name, row_end}
use Rattle.convert_tables.specs.declared.marks.Mark.TheVariants.{RowStart, RowNameEnd}
use Rattle.convert_tables.specs.Names.{marked_text}
use Rattle.convert_tables.specs.declared.cells.Axes.{Axes}
use Rattle.game_core.proofs.TableCountLemmas.{strategy_count-names}
use Rattle.convert_tables.proofs.CellPlaceLemmas.{AreAxes, IsOthersProfile, IsOthersProfile-profile, AreCells, AreCells-row, first_few, strategy_name_is}
use Rattle.convert_tables.proofs.AxisLemmas.{are_axes}
use Rattle.convert_tables.proofs.NumberedTextLemmas.{each-same, three_parts}
use Rattle.convert_tables.proofs.cells.push_row.Goals as goal

-- the number of the row's first cell, as it is computed
first_is : (l : Axes) (start number r : ℕ) → start ≡ number → start + l.row_stride * r ≡ number + stride (strategy_counts l.table.now) l.row * r
first_is l start number r e = ap₂ (λ v w. v + w * r) e l.row_stride_is

few : (l : Axes) (profile : List ℕ) (start r : ℕ) → AreAxes l.table.now l.row l.column → IsOthersProfile l.table.now l.row l.column profile → r < strategy_count l.table.now l.row → start ≡ number_of (strategy_counts l.table.now) profile → start + l.row_stride * r ≤ most_payoffs
few l profile start r h is b e =
    subst (λ v. v ≤ most_payoffs) (sym (first_is l start _ r e)) (first_few l.table.now l.row l.column profile r h is b)

-- where the row's cells stand
cells : (l : Axes) (profile : List ℕ) (start r : ℕ) → AreAxes l.table.now l.row l.column → IsOthersProfile l.table.now l.row l.column profile → r < strategy_count l.table.now l.row → start ≡ number_of (strategy_counts l.table.now) profile → AreCells l.table.now l.row l.column profile r (start + l.row_stride * r)
cells l profile start r h is b e =
    subst (AreCells l.table.now l.row l.column profile r) (sym (first_is l start _ r e)) (AreCells-row l.table.now l.row l.column profile r h is b)

pub profile_number-requires : goal.profile_number-requires
profile_number-requires c =
    let l = c.args.axes.now in
    (IsOthersProfile-profile l.table.now l.row l.column c.args.profile.now (are_axes l) c.requires.profile).is_profile

pub overflow_mul-first : goal.overflow_mul-first
overflow_mul-first c =
    let l = c.args.axes.now in
    let h = are_axes l in
    let is = IsOthersProfile-profile l.table.now l.row l.column c.args.profile.now h c.requires.profile in
    omega (arith, few l c.args.profile.now c.profile_number.result c.args.strategy h is c.requires.strategy c.profile_number.ensures.number)

pub overflow_add-first : goal.overflow_add-first
overflow_add-first c =
    let l = c.args.axes.now in
    let h = are_axes l in
    let is = IsOthersProfile-profile l.table.now l.row l.column c.args.profile.now h c.requires.profile in
    omega (arith, few l c.args.profile.now c.profile_number.result c.args.strategy h is c.requires.strategy c.profile_number.ensures.number)

pub bounds-names-strategy : goal.bounds-names-strategy
bounds-names-strategy c =
    let l = c.args.axes.now in
    omega (arith, c.requires.strategy, strategy_count-names l.table.now l.row c.strategies-names.result.now c.strategies-names.ensures.strategies)

pub push_cells-requires : goal.push_cells-requires
push_cells-requires c k b =
    let l = c.args.axes.now in
    let h = are_axes l in
    let is = IsOthersProfile-profile l.table.now l.row l.column c.args.profile.now h c.requires.profile in
    let first = c.profile_number.result + l.row_stride * c.args.strategy in
    subst (λ v. first + v * k < profile_count (strategy_counts l.table.now)) (sym l.column_stride_is) ((cells l c.args.profile.now c.profile_number.result c.args.strategy h is c.requires.strategy c.profile_number.ensures.number).below k b)

pub row_end-requires : goal.row_end-requires
row_end-requires c =
    let l = c.args.axes.now in
    omega (arith, c.requires.strategy, strategy_count-names l.table.now l.row c.strategies-names.result.now c.strategies-names.ensures.strategies)

pub returns : goal.returns
returns c =
    let l = c.args.axes.now in
    let t = l.table.now in
    let profile = c.args.profile.now in
    let r = c.args.strategy in
    let names = c.strategies-names.result.now in
    let h = are_axes l in
    let is = IsOthersProfile-profile t l.row l.column profile h c.requires.profile in
    let first = c.profile_number.result + l.row_stride * r in
    let places = cells l profile c.profile_number.result r h is c.requires.strategy c.profile_number.ensures.number in
    let rows : strategy_count t l.row ≡ length names = strategy_count-names t l.row names c.strategies-names.ensures.strategies in
    let in_names : r < length names = omega (arith, c.requires.strategy) in
    let name : c.bytes-name.result.now ≡ strategy_name t l.row r = c.bytes-name.ensures ∙ sym (strategy_name_is t l.row r names c.index-names-strategy.result c.strategies-names.ensures.strategies in_names c.index-names-strategy.is) in
    let cell : (k : ℕ) → k < strategy_count t l.column → cell_text l.style t l.row l.column (first + l.column_stride * k) ≡ cell_text l.style t l.row l.column (cell_number t l.row l.column profile r k) =
    λ k b. ap (cell_text l.style t l.row l.column) (ap (λ v. first + v * k) l.column_stride_is ∙ sym (places.numbers k b)) in
    let marked = c.in_ok-push_marked.ensures ∙ ap (λ v. c.args.text.now.items ++ marked_text l.style RowStart v RowNameEnd) name in
    let celled = c.in_ok-push_cells.ensures ∙ ap (λ v. c.push_marked.new.text.items ++ v) (each-same _ _ (strategy_count t l.column) cell) in
    let ended = c.in_ok-extend_from_slice.ensures.items ∙ ap (λ v. c.push_cells.new.text.items ++ v) (c.row_end.ensures ∙ ap (λ n. row_end l.style n r) (sym rows)) in
    three_parts c.args.text.now.items (marked_text l.style RowStart (strategy_name t l.row r) RowNameEnd) (cells_text l.style t l.row l.column profile r) (row_end l.style (strategy_count t l.row) r) c.push_marked.new.text.items c.push_cells.new.text.items _ marked celled ended
