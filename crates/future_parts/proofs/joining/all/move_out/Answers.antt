use Rattle.std.proofs.Common.{◌++◌, ◌∷◌, Some, map, length, sym, ap, ◌∙◌, subst, arith}
use Rattle.std.specs.List.{list_all, All}
use Rattle.std.proofs.lemmas.List.{append_assoc, length-append, map-append}
use Rattle.std.proofs.lemmas.List.Elements.{All-push}
use Rattle.future_parts.specs.Joining.{is_ended, output_of}
use Rattle.future_parts.proofs.joining.all.move_out.Goals as goal

pub loop-half-preserved : goal.loop-half-preserved
loop-half-preserved g c =
    let i = c.loop-half.invariant in
    let outs = c.loop-half.outputs.items in
    let rest = c.pop_front.new.self.items in
    let pushed = c.push_back_reserved.ensures in
    let said = c.in-Some.ensures in
    let popped = said.items ∙ ap (λ h. h ∷ rest) c.in-Ended.is in
    let fewer = ap length popped in
    let more = ap length pushed.items ∙ length-append outs _ in
    record {
      ended = sym (ap (list_all is_ended) popped) ∙ i.ended;
      room = omega (arith, i.room, fewer, more, pushed.capacity);
      moved =
          ap (λ xs. map Some xs ++ map (output_of (λ kept. kept.output)) rest) pushed.items
          ∙ ap (λ xs. xs ++ map (output_of (λ kept. kept.output)) rest) (map-append Some outs _)
          ∙ append_assoc (map Some outs) _ _
          ∙ ap (λ o. map Some outs ++ (Some o ∷ map (output_of (λ kept. kept.output)) rest)) c.into_output.ensures.output
          ∙ ap (λ hs. map Some outs ++ map (output_of (λ kept. kept.output)) hs) (sym popped)
          ∙ i.moved;
      meets = subst (All (λ it. ∥ g.F.Yields.meets it ∥₁)) (sym pushed.items) (All-push (λ it. ∥ g.F.Yields.meets it ∥₁) outs _ i.meets c.into_output.ensures.meets);
    }
