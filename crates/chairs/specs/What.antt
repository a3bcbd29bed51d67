-- What is read off every chair (`column_of`, Chairs). Assumes nothing.

-- what the sitting that was dealt in has put in, its number, whether it is live, and whether it is still there (1, else 0); off a chair that nobody ever had, 0
pub data What : Type 0 where
  Total : What
  Sitting : What
  Live : What
  Here : What
