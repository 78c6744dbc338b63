use Rattle.std.proofs.Common.{◌≡◌, ◌∙◌, ◌==◌, ℕ, List, ap, unwrap_or}
use Rattle.std.specs.List.{position}
use Rattle.std.specs.Option.{option_map}
use Rattle.ctrl_clusters.specs.Rows.{Values, value_at}
use Rattle.frame_forecast.specs.Sparse.{SparseFrame}
use Rattle.frame_forecast.proofs.WrittenLemmas.{written_linked}
use Rattle.frame_forecast.proofs.sparse.SparseFrame.write_into.Goals as goal

pub returns : goal.returns
returns c =
    written_linked c.args.self.now c.args.values.now.items c.write_given.new.values.items c.write_given.ensures.long
    (λ k lt.
    c.write_given.ensures.each k lt
    ∙ ap (λ (m : List ℕ). unwrap_or (option_map (value_at c.as_slice-2.result.now) (position (λ j. j == k) m)) (value_at c.args.values.now.items k)) (c.as_slice.ensures.value ∙ ap (λ (f : SparseFrame). f.moved) c.self.view_is)
    ∙ ap (λ (v : Values). unwrap_or (option_map (value_at v) (position (λ j. j == k) c.args.self.now.moved)) (value_at c.args.values.now.items k)) (c.as_slice-2.ensures.value ∙ ap (λ (f : SparseFrame). f.given) c.self.view_is))
