-- The number of a call is the value that it sends.
use Rattle.example_channel.proofs.send.Given as goal

abbrev pub ghosts-send_number : goal.ghosts-send_number
ghosts-send_number g a = record { number = a.value }
