use Rattle.text.proofs.line.+after_lines.Given as goal

-- proposed from what the function passes where it calls itself
abbrev pub decreases-after_lines : goal.decreases-after_lines
decreases-after_lines l = l.k
