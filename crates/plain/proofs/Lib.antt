mod Law
