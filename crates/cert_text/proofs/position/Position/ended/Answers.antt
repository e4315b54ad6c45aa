use Rattle.std.proofs.Common.{◌≡◌, ◌∙◌, ap, sym, ◌==◌}
use Rattle.std.specs.List.{list_all}
use Rattle.cert_text.specs.declared.position.Run.{Run}
use Rattle.cert_text.proofs.Runs.{none_pieces, pieces_none}
use Rattle.cert_text.proofs.position.Position.ended.Goals as goal

pub returns : goal.returns
returns c =
    let is : c.no_pieces.result ≡ list_all (λ (r : Run). r.count == 0) c.self.inside.runs.items = c.no_pieces.ensures ∙ ap (list_all (λ (r : Run). r.count == 0)) c.deref.ensures.value in (
      λ e. sym c.self.view_is ∙ pieces_none c.self.inside.runs.items (sym is ∙ e),
      λ e. is ∙ none_pieces c.self.inside.runs.items (c.self.view_is ∙ e),
    )
